-- A form stays in the grammar with one more word in front.
use Rattle.std.proofs.Common.{◌≡◌, ◌≢◌, ℕ, Bool, true, false, List, [], ◌∷◌, ◌++◌, inl, inr, refl, ap, sym, ◌∙◌, append_assoc}
use Rattle.std.specs.Prelude.{not, codes}
use Rattle.std.proofs.lemmas.Bool.{not-true}
use Rattle.pddl_form.specs.declared.next.Next.TheVariants as next
use Rattle.pddl_form.specs.declared.parts.KeysSeen.{KeysSeen}
use Rattle.pddl_form.specs.declared.parts.Listing.{Listing}
use Rattle.pddl_form.specs.declared.parts.Listing.TheVariants as listing
use Rattle.pddl_form.specs.declared.parts.Owner.{Owner}
use Rattle.pddl_form.specs.declared.parts.Part.TheVariants as part
use Rattle.pddl_form.specs.declared.parts.SectionsSeen.{SectionsSeen}
use Rattle.pddl_form.specs.declared.parts.StatementsSeen.{StatementsSeen}
use Rattle.pddl_form.specs.declared.sort.Sort.{Sort}
use Rattle.pddl_form.specs.declared.sort.Sort.TheVariants as word
use Rattle.pddl_form.specs.Actions.{action_name, key, condition_head, effect_head, atom_head, total_word, cost, cost_head, terms}
use Rattle.pddl_form.specs.Domains.{domain_define, domain_word, section, function_tail, function_type}
use Rattle.pddl_form.specs.Grammar.{Sign, Says, Opens, Closes, IsName, IsVariable, IsTerm, IsNumber, IsCostName, Row, Typed, IsAtom, IsCondition, One, IsCost, total, IsEffect, HasKeys, HasSections, IsDomain, HasFacts, HasStatements, IsProblem}
use Rattle.pddl_form.specs.Names.{is_free_sort, is_name_sort, is_term_sort}
use Rattle.pddl_form.specs.Problems.{problem_define, problem_word, of_domain_word, statement, fact_head, valued_head, goal_head, objects, metric}
use Rattle.pddl_form.specs.Rows.{only_if, no_keys}
use Rattle.pddl_form.specs.Typed as typed
use Rattle.pddl_form.specs.Words.{spelling, sort}
use Rattle.pddl_form.proofs.WordLemmas.{is_shape, own_spelled, name_sort, term_sort, sort_variable, sort_numeral, sort_free}
use Rattle.pddl_form.proofs.Denotes.{ThenName, OneName, IsEntry, IsTail, Denotes, Follows, if_follows, said}

abbrev pub is_own : Sort → Bool
is_own s = not (is_shape s)

abbrev pub is_total : Sort → Bool
is_total word.TotalCost = true
is_total s = false

module _ (text : List ℕ) (t : List Sign) where
  pub spelled : (s : Sort) → sort text ≡ s → is_own s ≡ true → text ≡ spelling s
  spelled s is own = own_spelled text s is (not-true (is_shape s) own)

  pub named : is_name_sort (sort text) ≡ true → IsName text
  named is = sym (name_sort text) ∙ is

  pub says_same : {own : List ℕ} {u : List Sign} → text ≡ own → t ≡ u → Says text ∷ t ≡ Says own ∷ u
  says_same {own} {u} e h = ap (λ (w : List ℕ). Says w ∷ t) e ∙ ap (λ (x : List Sign). Says own ∷ x) h

  pub then_name : Follows (only_if (is_name_sort (sort text)) (next.One part.Close)) t → ThenName (Says text ∷ t)
  then_name f = let g = if_follows (is_name_sort (sort text)) (next.One part.Close) t f in (text, named g.0, ap (λ (x : List Sign). Says text ∷ x) g.1)

  pub one_name : Follows (only_if (is_name_sort (sort text)) next.Nothing) t → OneName (Says text ∷ t)
  one_name f = let g = if_follows (is_name_sort (sort text)) next.Nothing t f in (text, named g.0, ap (λ (x : List Sign). Says text ∷ x) g.1)

  pub names_says : (of : Listing) → Follows (typed.names of (sort text)) t → Typed IsName false (Says text ∷ t)
  names_says of f = let g = if_follows (is_name_sort (sort text)) (next.One (part.NamesMore of)) t f in Typed.thing (named g.0) g.1

  pub names_more_says : (of : Listing) (s : Sort) → sort text ≡ s → Follows (typed.names_more of s) t → Typed IsName true (Says text ∷ t)
  names_more_says of word.Dash is (first, rest, (name, good, e), more, h) =
      said (Typed IsName true) text (codes "-") t (Says name ∷ rest) (spelled word.Dash is refl) (h ∙ ap (λ (x : List Sign). x ++ rest) e) (Typed.type good more)
  names_more_says of s is f =
      let g = if_follows (is_name_sort s) (next.One (part.NamesMore of)) t f in
      Typed.thing (named (ap is_name_sort is ∙ g.0)) g.1

  pub variables_says : (owner : Owner) (s : Sort) → sort text ≡ s → Follows (typed.variables owner s) t → Typed IsVariable false (Says text ∷ t)
  variables_says owner word.Variable is f = Typed.thing (sort_variable text is) f
  variables_says owner s is f = absurd f

  pub variables_more_says : (owner : Owner) (s : Sort) → sort text ≡ s → Follows (typed.variables_more owner s) t → Typed IsVariable true (Says text ∷ t)
  variables_more_says owner word.Variable is f = Typed.thing (sort_variable text is) f
  variables_more_says owner word.Dash is (first, rest, (name, good, e), more, h) =
      said (Typed IsVariable true) text (codes "-") t (Says name ∷ rest) (spelled word.Dash is refl) (h ∙ ap (λ (x : List Sign). x ++ rest) e) (Typed.type good more)
  variables_more_says owner s is f = absurd f

  pub define_says : (s : Sort) → sort text ≡ s → Follows (domain_define s) t → IsDomain (Opens ∷ Says text ∷ t)
  define_says word.Define is (first, rest, (name, good, e), more, h) =
      said (λ x. IsDomain (Opens ∷ x)) text (codes "define") t _ (spelled word.Define is refl) (h ∙ ap (λ (x : List Sign). x ++ rest) e) (IsDomain.domain good more)
  define_says s is f = absurd f

  pub domain_says : (s : Sort) → sort text ≡ s → Follows (domain_word s) t → Denotes part.DomainWord (Says text ∷ t)
  domain_says word.Domain is (name, good, e) = (name, good, says_same (spelled word.Domain is refl) e)
  domain_says s is f = absurd f

  pub section_says : (seen : SectionsSeen) (s : Sort) → sort text ≡ s → Follows (section seen s) t → HasSections seen (Opens ∷ Says text ∷ t)
  section_says seen word.Requirements is f =
      let g = if_follows (not seen.requirements) (next.Two part.Words (part.Sections (record seen { requirements = true }))) t f in
      let h = g.1 in
      said (λ x. HasSections seen (Opens ∷ x)) text (codes ":requirements") t _ (spelled word.Requirements is refl) h.4 (HasSections.requirements (not-true seen.requirements g.0) h.2 h.3)
  section_says seen word.Types is f =
      let g = if_follows (not seen.types) (next.Two (part.Names listing.Types) (part.Sections (record seen { types = true }))) t f in
      let h = g.1 in
      said (λ x. HasSections seen (Opens ∷ x)) text (codes ":types") t _ (spelled word.Types is refl) h.4 (HasSections.types (not-true seen.types g.0) h.2 h.3)
  section_says seen word.Constants is f =
      let g = if_follows (not seen.constants) (next.Two (part.Names listing.Constants) (part.Sections (record seen { constants = true }))) t f in
      let h = g.1 in
      said (λ x. HasSections seen (Opens ∷ x)) text (codes ":constants") t _ (spelled word.Constants is refl) h.4 (HasSections.constants (not-true seen.constants g.0) h.2 h.3)
  section_says seen word.Predicates is f =
      let g = if_follows (not seen.predicates) (next.Two part.Predicates (part.Sections (record seen { predicates = true }))) t f in
      let h = g.1 in
      said (λ x. HasSections seen (Opens ∷ x)) text (codes ":predicates") t _ (spelled word.Predicates is refl) h.4 (HasSections.predicates (not-true seen.predicates g.0) h.2 h.3)
  section_says seen word.Functions is f =
      let g = if_follows (not seen.functions) (next.Two part.Functions (part.Sections (record seen { functions = true }))) t f in
      let h = g.1 in
      said (λ x. HasSections seen (Opens ∷ x)) text (codes ":functions") t _ (spelled word.Functions is refl) h.4 (HasSections.functions (not-true seen.functions g.0) h.2 h.3)
  section_says seen word.Action is (first, rest, (name, keys, free, has, e), more, h) =
      said (λ x. HasSections seen (Opens ∷ x)) text (codes ":action") t _ (spelled word.Action is refl) (h ∙ ap (λ (x : List Sign). x ++ rest) e) (HasSections.action free has more)
  section_says seen s is f = absurd f

  pub entry_says : (owner : Owner) → Follows (only_if (is_free_sort (sort text)) (next.One (part.Variables owner))) t → IsEntry (Says text ∷ t)
  entry_says owner f = let g = if_follows (is_free_sort (sort text)) (next.One (part.Variables owner)) t f in (text, t, sort_free text g.0, g.1, refl)

  pub tail_says : (s : Sort) → sort text ≡ s → Follows (function_tail s) t → IsTail (Says text ∷ t)
  tail_says word.Dash is (first, rest, number, more, h) = (rest, more, inr (says_same (spelled word.Dash is refl) (h ∙ ap (λ (x : List Sign). x ++ rest) number)))
  tail_says s is f = absurd f

  pub number_says : (s : Sort) → sort text ≡ s → Follows (function_type s) t → Says text ∷ t ≡ Says (codes "number") ∷ []
  number_says word.NumberType is e = says_same (spelled word.NumberType is refl) e
  number_says s is f = absurd f

  pub action_says : Follows (action_name (sort text)) t → Denotes part.ActionName (Says text ∷ t)
  action_says f = let g = if_follows (is_free_sort (sort text)) (next.One (part.Keys no_keys)) t f in (text, t, sort_free text g.0, g.1, refl)

  pub parameters_say : (seen : KeysSeen) → sort text ≡ word.Parameters → seen.parameters ≡ false → Follows (next.Two part.ParameterList (part.Keys (record seen { parameters = true }))) t → HasKeys seen (Says text ∷ t)
  parameters_say seen is left (first, rest, (inner, list, e), more, h) =
      said (HasKeys seen) text (codes ":parameters") t _ (spelled word.Parameters is refl) (h ∙ ap (λ (x : List Sign). x ++ rest) e) (HasKeys.parameters left list more)

  pub key_says : (seen : KeysSeen) (s : Sort) → sort text ≡ s → Follows (key seen s) t → HasKeys seen (Says text ∷ t)
  key_says seen word.Parameters is f =
      let g = if_follows (not seen.parameters) (next.Two part.ParameterList (part.Keys (record seen { parameters = true }))) t f in
      parameters_say seen is (not-true seen.parameters g.0) g.1
  key_says seen word.Precondition is f =
      let g = if_follows (not seen.precondition) (next.Two part.Condition (part.Keys (record seen { precondition = true }))) t f in
      let h = g.1 in
      said (HasKeys seen) text (codes ":precondition") t _ (spelled word.Precondition is refl) h.4 (HasKeys.precondition (not-true seen.precondition g.0) h.2 h.3)
  key_says seen word.Effect is f =
      let g = if_follows (not seen.effect) (next.Two part.Effect (part.Keys (record seen { effect = true }))) t f in
      let h = g.1 in
      said (HasKeys seen) text (codes ":effect") t _ (spelled word.Effect is refl) h.4 (HasKeys.effect (not-true seen.effect g.0) h.2 h.3)
  key_says seen s is f = absurd f

  pub condition_says : (s : Sort) → sort text ≡ s → Follows (condition_head s) t → IsCondition IsTerm One (Opens ∷ Says text ∷ t)
  condition_says word.And is f = said (λ x. IsCondition IsTerm One (Opens ∷ x)) text (codes "and") t t (spelled word.And is refl) refl (IsCondition.all f)
  condition_says s is f =
      let g = if_follows (is_free_sort s) (next.One part.Terms) t f in
      IsCondition.holds (IsAtom.atom (sort_free text (ap is_free_sort is ∙ g.0)) g.1)

  pub effect_says : (s : Sort) → sort text ≡ s → Follows (effect_head s) t → IsEffect One (Opens ∷ Says text ∷ t)
  effect_says word.And is f = said (λ x. IsEffect One (Opens ∷ x)) text (codes "and") t t (spelled word.And is refl) refl (IsEffect.all f)
  effect_says word.Not is (inner, negated, e) = said (λ x. IsEffect One (Opens ∷ x)) text (codes "not") t _ (spelled word.Not is refl) e (IsEffect.deletes negated)
  effect_says word.Increase is (first, rest, e, (inner, price, d), h) =
      said (λ x. IsEffect One (Opens ∷ x)) text (codes "increase") t _ (spelled word.Increase is refl) (h ∙ ap (λ (x : List Sign). x ++ rest) e ∙ ap total d) (IsEffect.increases price)
  effect_says s is f =
      let g = if_follows (is_free_sort s) (next.One part.Terms) t f in
      IsEffect.adds (IsAtom.atom (sort_free text (ap is_free_sort is ∙ g.0)) g.1)

  pub atom_says : Follows (atom_head (sort text)) t → IsAtom IsTerm (Opens ∷ Says text ∷ t)
  atom_says f = let g = if_follows (is_free_sort (sort text)) (next.One part.Terms) t f in IsAtom.atom (sort_free text g.0) g.1

  pub total_says : (s : Sort) → sort text ≡ s → Follows (total_word s) t → Says text ∷ t ≡ Says (codes "total-cost") ∷ Closes ∷ []
  total_says word.TotalCost is e = says_same (spelled word.TotalCost is refl) e
  total_says s is f = absurd f

  pub cost_says : (s : Sort) → sort text ≡ s → Follows (cost s) t → Denotes part.Cost (Says text ∷ t)
  cost_says word.Numeral is e = (Says text ∷ [], IsCost.plain (sort_numeral text is), ap (λ (x : List Sign). Says text ∷ x) e)
  cost_says s is f = absurd f

  pub value_says : (s : Sort) → sort text ≡ s → Follows (cost s) t → Denotes part.Number (Says text ∷ t)
  value_says word.Numeral is e = (text, sort_numeral text is, ap (λ (x : List Sign). Says text ∷ x) e)
  value_says s is f = absurd f

  pub no_total : (s : Sort) → sort text ≡ s → is_total s ≡ false → text ≢ codes "total-cost"
  no_total s is other e = let same : is_total (sort text) ≡ true = ap (λ (x : List ℕ). is_total (sort x)) e in let differs = sym same ∙ ap is_total is ∙ other in absurd cc

  pub cost_name : (s : Sort) → sort text ≡ s → is_total s ≡ false → is_name_sort s ≡ true → IsCostName text
  cost_name s is other name = (named (ap is_name_sort is ∙ name), no_total s is other)

  pub cost_head_says : (s : Sort) → sort text ≡ s → Follows (cost_head s) t → IsCost (Opens ∷ Says text ∷ t)
  cost_head_says word.TotalCost is f = absurd f
  cost_head_says s is f = let g = if_follows (is_name_sort s) (next.One part.Terms) t f in IsCost.term (cost_name s is refl g.0) g.1

  pub terms_says : Follows (terms (sort text)) t → Row IsTerm (Says text ∷ t)
  terms_says f = let g = if_follows (is_term_sort (sort text)) (next.One part.Terms) t f in Row.word (sym (term_sort text) ∙ g.0) g.1

  pub problem_define_says : (s : Sort) → sort text ≡ s → Follows (problem_define s) t → IsProblem (Opens ∷ Says text ∷ t)
  problem_define_says word.Define is (first, rest, (name, good, e), (of, inner, of_good, more, d), h) =
      said (λ x. IsProblem (Opens ∷ x)) text (codes "define") t _ (spelled word.Define is refl)
      (h ∙ ap (λ (x : List Sign). x ++ rest) e ∙ ap (λ (x : List Sign). Opens ∷ Says (codes "problem") ∷ Says name ∷ Closes ∷ x) d)
      (IsProblem.problem good of_good more)
  problem_define_says s is f = absurd f

  pub problem_says : (s : Sort) → sort text ≡ s → Follows (problem_word s) t → Denotes part.ProblemWord (Says text ∷ t)
  problem_says word.Problem is (name, good, e) = (name, good, says_same (spelled word.Problem is refl) e)
  problem_says s is f = absurd f

  pub of_domain_says : (s : Sort) → sort text ≡ s → Follows (of_domain_word s) t → Denotes part.OfDomainWord (Says text ∷ t)
  of_domain_says word.OfDomain is (name, good, e) = (name, good, says_same (spelled word.OfDomain is refl) e)
  of_domain_says s is f = absurd f

  pub goal_says : (seen : StatementsSeen) → sort text ≡ word.Goal → seen.goal ≡ false → Follows (next.Two part.Goal (part.Statements (record seen { goal = true }))) t → HasStatements seen (Opens ∷ Says text ∷ t)
  goal_says seen is left (first, rest, (inner, cond, e), more, h) =
      said (λ x. HasStatements seen (Opens ∷ x)) text (codes ":goal") t _ (spelled word.Goal is refl)
      (h ∙ ap (λ (x : List Sign). x ++ rest) e ∙ append_assoc inner (Closes ∷ []) rest) (HasStatements.goal left cond more)

  pub metric_says : (seen : StatementsSeen) → sort text ≡ word.Metric → seen.metric ≡ false → Follows (next.Two part.Metric (part.Statements (record seen { metric = true }))) t → HasStatements seen (Opens ∷ Says text ∷ t)
  metric_says seen is left (first, rest, e, more, h) =
      said (λ x. HasStatements seen (Opens ∷ x)) text (codes ":metric") t _ (spelled word.Metric is refl) (h ∙ ap (λ (x : List Sign). x ++ rest) e) (HasStatements.metric left more)

  pub statement_says : (seen : StatementsSeen) (s : Sort) → sort text ≡ s → Follows (statement seen s) t → HasStatements seen (Opens ∷ Says text ∷ t)
  statement_says seen word.Requirements is f =
      let g = if_follows (not seen.requirements) (next.Two part.Words (part.Statements (record seen { requirements = true }))) t f in
      let h = g.1 in
      said (λ x. HasStatements seen (Opens ∷ x)) text (codes ":requirements") t _ (spelled word.Requirements is refl) h.4 (HasStatements.requirements (not-true seen.requirements g.0) h.2 h.3)
  statement_says seen word.Objects is f =
      let g = if_follows (not seen.objects) (next.Two (part.Names listing.Objects) (part.Statements (record seen { objects = true }))) t f in
      let h = g.1 in
      said (λ x. HasStatements seen (Opens ∷ x)) text (codes ":objects") t _ (spelled word.Objects is refl) h.4 (HasStatements.objects (not-true seen.objects g.0) h.2 h.3)
  statement_says seen word.Init is f =
      let g = if_follows (not seen.init) (next.Two part.Facts (part.Statements (record seen { init = true }))) t f in
      let h = g.1 in
      said (λ x. HasStatements seen (Opens ∷ x)) text (codes ":init") t _ (spelled word.Init is refl) h.4 (HasStatements.init (not-true seen.init g.0) h.2 h.3)
  statement_says seen word.Goal is f =
      let g = if_follows (not seen.goal) (next.Two part.Goal (part.Statements (record seen { goal = true }))) t f in
      goal_says seen is (not-true seen.goal g.0) g.1
  statement_says seen word.Metric is f =
      let g = if_follows (not seen.metric) (next.Two part.Metric (part.Statements (record seen { metric = true }))) t f in
      metric_says seen is (not-true seen.metric g.0) g.1
  statement_says seen s is f = absurd f

  pub value_fact : sort text ≡ word.Equal → (first rest : List Sign) → Denotes part.Valued first → (number : List ℕ) → IsNumber number → rest ≡ Says number ∷ Closes ∷ [] → t ≡ first ++ rest → Denotes part.FactHead (Says text ∷ t)
  value_fact is first rest (inl e) number good d h later facts =
      said (λ x. HasFacts (Opens ∷ x)) text (codes "=") (t ++ later) _ (spelled word.Equal is refl)
      (ap (λ (x : List Sign). x ++ later) (h ∙ ap (λ (x : List Sign). x ++ rest) e ∙ ap total d))
      (HasFacts.total_value good facts)
  value_fact is first rest (inr (name, inner, free, row, e)) number good d h later facts =
      said (λ x. HasFacts (Opens ∷ x)) text (codes "=") (t ++ later) _ (spelled word.Equal is refl)
      (ap (λ (x : List Sign). x ++ later) (h ∙ ap (λ (x : List Sign). x ++ rest) e ∙ ap (λ (x : List Sign). Opens ∷ Says name ∷ inner ++ x) d)
      ∙ append_assoc (Opens ∷ Says name ∷ inner) (Says number ∷ Closes ∷ []) later)
      (HasFacts.value number free row good facts)

  pub fact_says : (s : Sort) → sort text ≡ s → Follows (fact_head s) t → Denotes part.FactHead (Says text ∷ t)
  fact_says word.Equal is (first, rest, valued, (number, good, d), h) = value_fact is first rest valued number good d h
  fact_says s is f =
      let g = if_follows (is_free_sort s) (next.One part.Objects) t f in
      λ rest facts. HasFacts.fact (IsAtom.atom (sort_free text (ap is_free_sort is ∙ g.0)) g.1) facts

  pub valued_says : (s : Sort) → sort text ≡ s → Follows (valued_head s) t → Denotes part.ValuedHead (Says text ∷ t)
  valued_says word.TotalCost is e = inl (says_same (spelled word.TotalCost is refl) e)
  valued_says s is f = let g = if_follows (is_name_sort s) (next.One part.Objects) t f in inr (text, t, cost_name s is refl g.0, g.1, refl)

  pub goal_head_says : (s : Sort) → sort text ≡ s → Follows (goal_head s) t → IsCondition IsName One (Opens ∷ Says text ∷ t)
  goal_head_says word.And is f = said (λ x. IsCondition IsName One (Opens ∷ x)) text (codes "and") t t (spelled word.And is refl) refl (IsCondition.all f)
  goal_head_says s is f =
      let g = if_follows (is_free_sort s) (next.One part.Objects) t f in
      IsCondition.holds (IsAtom.atom (sort_free text (ap is_free_sort is ∙ g.0)) g.1)

  pub objects_says : Follows (objects (sort text)) t → Row IsName (Says text ∷ t)
  objects_says f = let g = if_follows (is_name_sort (sort text)) (next.One part.Objects) t f in Row.word (named g.0) g.1

  pub metric_word_says : (s : Sort) → sort text ≡ s → Follows (metric s) t → Denotes part.Metric (Says text ∷ t)
  metric_word_says word.Minimize is (first, rest, e, d, h) = says_same (spelled word.Minimize is refl) (h ∙ ap (λ (x : List Sign). x ++ rest) e ∙ ap total d)
  metric_word_says s is f = absurd f
