-- Nodes that are due stay due, and their atoms are atoms of the task.
use Rattle.std.proofs.Common.{ℕ, inl, inr, List, [], ◌∷◌, ◌++◌, sym, ◌∙◌, subst}
use Rattle.std.proofs.lemmas.Bool.{or_cases, and_parts}
use Rattle.mre_base.specs.declared.node.Node.{Node}
use Rattle.mre_base.specs.declared.node.Node.TheVariants as nodes
use Rattle.mre_base.specs.Sets.{BitSet}
use Rattle.cube_kit.specs.Cubes.{CubeMeaning}
use Rattle.task_kit.specs.Judged.{state_after}
use Rattle.task_kit.specs.Tasks.{Numbers, TaskMeaning, AllBelow, IsTask, after}
use Rattle.task_kit.proofs.StepLemmas.{contains-after}
use Rattle.search_log.specs.Due.{IsReachedBelow, IsDue, IsLogged, IsStateDue, bound_at}
use Rattle.search_log.specs.Searching.{IsOfSearch}
use Rattle.search_log.proofs.LogLemmas.{contains_on}

module _ (task : TaskMeaning) where
  reached_known : (bound : ℕ) (known more : Numbers → Type 0) (state : Numbers) → ((s : Numbers) → known s → more s) → IsReachedBelow task bound known state → IsReachedBelow task bound more state
  reached_known bound known more state goes r =
      record {
        list = r.list;
        action = r.action;
        applies = r.applies;
        leads = r.leads;
        cheap = r.cheap;
        before = goes (state_after task task.start r.list) r.before;
      }

  due_known : (k : ℕ) (known more : Numbers → Type 0) (state : Numbers) → ((s : Numbers) → known s → more s) → IsDue task k known state → IsDue task k more state
  due_known k known more state goes due =
      record {
        closure = due.closure;
        is_closure = due.is_closure;
        reached = elim due.reached [
          | inl first ↦ inl first
          | inr r ↦ inr (reached_known (bound_at task k due.closure) known more state goes r)
        ];
      }

  pub state_due_on : (c : CubeMeaning) (k : ℕ) (log more : List Node) (bits : BitSet) → IsStateDue task c k log bits → IsStateDue task c k (log ++ more) bits
  state_due_on c k log more bits due =
      record {
        probed = contains_on log more _ due.probed;
        wide = due.wide;
        due = due_known k (IsLogged task c log) (IsLogged task c (log ++ more)) bits.members (λ s there. contains_on log more _ there) due.due;
      }

  pub of_search_on : (c : CubeMeaning) (k : ℕ) (log more : List Node) (node : Node) → IsOfSearch task c k log node → IsOfSearch task c k (log ++ more) node
  of_search_on c k log more (nodes.Split up told left place) is = is
  of_search_on c k log more (nodes.Probe told left) is = is
  of_search_on c k log more (nodes.State told left bits) (told_is, left_is, due) = (told_is, left_is, state_due_on c k log more bits due)

  -- ---- atoms of states
  pub after_below : IsTask task → (action : ℕ) (state : Numbers) → AllBelow task.atoms state → AllBelow task.atoms (after task action state)
  after_below sound action state below q there =
      elim (or_cases _ _ (sym (contains-after task action state q) ∙ there)) [
        | inl stays ↦ below q (and_parts _ _ stays).0
        | inr added ↦ (sound.each action).add q added
      ]

  pub walk_below : IsTask task → (state : Numbers) (list : List ℕ) → AllBelow task.atoms state → AllBelow task.atoms (state_after task state list)
  walk_below sound state [] below = below
  walk_below sound state (action ∷ list) below = walk_below sound (after task action state) list (after_below sound action state below)

  pub due_below : (k : ℕ) (known : Numbers → Type 0) (state : Numbers) → IsTask task → IsDue task k known state → AllBelow task.atoms state
  due_below k known state sound due =
      elim due.reached [
        | inl first ↦ subst (AllBelow task.atoms) (sym first.0) sound.start
        | inr r ↦ subst (AllBelow task.atoms) (sym r.leads) (walk_below sound task.start (r.list ++ r.action ∷ []) sound.start)
      ]
