-- Logs that go on: what they contain, and what a search adds to them in parts.
use Rattle.std.proofs.Common.{ℕ, inl, inr, List, [], ◌∷◌, ◌++◌, refl, sym, ap, ◌∙◌, subst}
use Rattle.std.proofs.lemmas.List.{append_assoc, append-nil}
use Rattle.std.specs.Prelude.{Contains}
use Rattle.mre_base.proofs.Listed.{item_contained, place_of_contained, slice_get-append}
use Rattle.mre_base.specs.declared.node.Node.{Node}
use Rattle.mre_base.specs.Log.{Log}
use Rattle.cube_kit.specs.Cubes.{CubeMeaning}
use Rattle.task_kit.specs.Tasks.{TaskMeaning}
use Rattle.search_log.specs.Logging.{Logs}
use Rattle.search_log.specs.Nodes.{EachAfter}
use Rattle.search_log.specs.Searching.{IsOfSearch, IsNewOfSearch, Searches}

-- what a list contains stays in it when the list goes on
pub contains_on : {X : Type 0} (xs ys : List X) (x : X) → Contains xs x → Contains (xs ++ ys) x
contains_on xs ys x there =
    let at = place_of_contained xs x there in
    item_contained (xs ++ ys) at.0 x (slice_get-append xs ys at.0 x at.1)

-- what holds of each node of two parts, one after the other, holds of each node of the whole
pub each_more : (P : List Node → Node → Type 0) (before xs ys : List Node) → EachAfter P before xs → EachAfter P (before ++ xs) ys → EachAfter P before (xs ++ ys)
each_more P before [] ys one two = subst (λ zs. EachAfter P zs ys) (append-nil before) two
each_more P before (x ∷ xs) ys one two =
    (one.0, each_more P (before ++ x ∷ []) xs ys one.1 (subst (λ zs. EachAfter P zs ys) (sym (append_assoc before (x ∷ []) xs)) two))

module _ (task : TaskMeaning) (c : CubeMeaning) (k : ℕ) where
  pub searches_none : (log : Log) → Searches task c k log log
  searches_none log = record { limit = refl; added = []; nodes = sym (append-nil log.nodes); each = tt }

  pub searches_one : (old new : Log) (node : Node) → IsOfSearch task c k old.nodes node → Logs old node new → Searches task c k old new
  searches_one old new node due logs =
      elim logs [
        | inl same ↦ subst (Searches task c k old) (sym same.1) (searches_none old)
        | inr fresh ↦
            record {
              limit = ap (λ l. l.limit) fresh.1;
              added = node ∷ [];
              nodes = ap (λ l. l.nodes) fresh.1;
              each = ((due, fresh.0), tt);
            }
      ]

  pub searches_two : (old between new : Log) → Searches task c k old between → Searches task c k between new → Searches task c k old new
  searches_two old between new one two =
      record {
        limit = two.limit ∙ one.limit;
        added = one.added ++ two.added;
        nodes = two.nodes ∙ ap (λ xs. xs ++ two.added) one.nodes ∙ append_assoc old.nodes one.added two.added;
        each = each_more (IsNewOfSearch task c k) old.nodes one.added two.added one.each (subst (λ xs. EachAfter (IsNewOfSearch task c k) xs two.added) one.nodes two.each);
      }
