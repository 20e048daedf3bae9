-- The search for the name that comes first.
use Rattle.std.proofs.Common.{◌≡◌, ℕ, ◌+◌, ◌≤◌, zero, suc, true, false, cond, List, [], ◌∷◌, ◌++◌, length, take, Option, Some, None, refl, sym, ap, subst, ◌∙◌, arith, append_assoc, ⊎_elim, inl, inr}
use Rattle.std.specs.Prelude.{◌≢◌, ◌⊎◌, Contains, slice_get}
use Rattle.std.specs.Ordering.{nat_cmp, is_lt, ordering_reverse}
use Rattle.std.specs.declared.cmp.Ordering.{Ordering}
use Rattle.std.specs.declared.cmp.Ordering.TheVariants.{Less, Equal, Greater}
use Rattle.std.specs.Cmp.Lexicographic.{slice_cmp, nat_list_cmp_total}
use Rattle.std.proofs.lemmas.Bool.{true≢false, cases_Bool}
use Rattle.std.proofs.lemmas.List.{map-append, take_all}
use Rattle.std.proofs.lemmas.List.Elements.{Contains-append_left, Contains-append_right}
use Rattle.std.proofs.lemmas.Map.Lookups.{exact_bytes}
use Rattle.model_kit.specs.declared.vocabulary.Vocabulary.{Vocabulary}
use Rattle.model_kit.specs.declared.vocabulary.Signature.{Signature}
use Rattle.model_kit.specs.Same.{same_numbers}
use Rattle.model_kit.specs.Pairs.{names}
use Rattle.model_kit.specs.Differences.{IsPrintedBefore}
use Rattle.model_kit.proofs.Alike.{same_numbers-decides}
use Rattle.mre_base.proofs.Loops.{take_item}
use Rattle.joint_models.specs.declared.group.Group.{Group}
use Rattle.joint_models.specs.Listed.{entry_named}
use Rattle.joint_models.specs.Disagreements.{entries_in, has, AreAlike, is_shared, Disagree, AgreeIn, IsEarliest}
use Rattle.joint_models.specs.Searching.{earlier_of, SeenWith, IsFirstSeen, IsFound, GoesOn}
use Rattle.joint_models.proofs.Entries.{entry_cases, entry_has_name}
use Rattle.joint_models.proofs.Alikeness.{alike_none, has_none}
use Rattle.mre_base.proofs.Listed.{item_contained, map-contains}

less_if : (one two : List ℕ) → is_lt (slice_cmp nat_cmp one two) ≡ true → IsPrintedBefore one two
less_if one two e = by (slice_cmp nat_cmp one two) e
  where
    by : (r : Ordering) → is_lt r ≡ true → r ≡ Less
    by Less e = refl
    by Equal e = absurd (true≢false (sym e))
    by Greater e = absurd (true≢false (sym e))

-- a name that isn't before another and isn't it, is after it
after_if : (one two : List ℕ) → is_lt (slice_cmp nat_cmp one two) ≡ false → one ≢ two → IsPrintedBefore two one
after_if one two e other = nat_list_cmp_total.antisymm two one ∙ by (slice_cmp nat_cmp one two) refl e
  where
    by : (r : Ordering) → slice_cmp nat_cmp one two ≡ r → is_lt r ≡ false → ordering_reverse r ≡ Less
    by Less is e = absurd (true≢false e)
    by Equal is e = absurd (other (exact_bytes one two is))
    by Greater is e = refl

-- what a list with one more at its end contains
in_more : {X : Type 0} (xs : List X) (y x : X) → Contains (xs ++ y ∷ []) x → Contains xs x ⊎ (y ≡ x)
in_more [] y x (zero, lt, is) = inr is
in_more [] y x (suc k, lt, is) = absurd (omega arith)
in_more (z ∷ xs) y x (zero, lt, is) = inl (zero, omega arith, is)
in_more (z ∷ xs) y x (suc k, lt, is) =
    ⊎_elim (λ there. inl (suc there.0, omega (arith, there.1), there.2)) (λ here. inr here) (in_more xs y x (k, omega arith, is))

module _ (P : List ℕ → Type 0) (seen : List (List ℕ)) (name : List ℕ) where
  seen_more : (other : List ℕ) → SeenWith P (seen ++ name ∷ []) other → SeenWith P seen other ⊎ (name ≡ other)
  seen_more other (there, holds) = ⊎_elim (λ before. inl (before, holds)) (λ here. inr here) (in_more seen name other there)

  seen_before : (other : List ℕ) → SeenWith P seen other → SeenWith P (seen ++ name ∷ []) other
  seen_before other (there, holds) = (Contains-append_left seen (name ∷ []) other there, holds)

  -- a further name without the property
  pub seen_miss : ¬ P name → (least : Option (List ℕ)) → IsFirstSeen P seen least → IsFirstSeen P (seen ++ name ∷ []) least
  seen_miss not_here None none = λ other there. ⊎_elim (λ before. none other before) (λ here. not_here (subst P (sym here) there.1)) (seen_more other there)
  seen_miss not_here (Some first) found = record {
    here = seen_before first found.here;
    first = λ other there apart. ⊎_elim (λ before. found.first other before apart) (λ here. absurd (not_here (subst P (sym here) there.1))) (seen_more other there);
  }

  -- a further name with the property
  pub seen_hit : P name → (least : Option (List ℕ)) → IsFirstSeen P seen least → IsFirstSeen P (seen ++ name ∷ []) (Some (earlier_of least name))
  seen_hit here None none = record {
    here = (Contains-append_right seen (name ∷ []) name (zero, omega arith, refl), here);
    first = λ other there apart. ⊎_elim (λ before. absurd (none other before)) (λ same. absurd (apart (sym same))) (seen_more other there);
  }
  seen_hit here (Some first) found =
      ⊎_elim
      (λ less. subst (IsEarliest (SeenWith P (seen ++ name ∷ []))) (sym (ap (λ b. cond b name first) less)) (record {
        here = (Contains-append_right seen (name ∷ []) name (zero, omega arith, refl), here);
        first = λ other there apart. ⊎_elim (λ before. after_new less other before) (λ same. absurd (apart (sym same))) (seen_more other there);
      }))
      (λ not_less. subst (IsEarliest (SeenWith P (seen ++ name ∷ []))) (sym (ap (λ b. cond b name first) not_less)) (record {
        here = seen_before first found.here;
        first = λ other there apart. ⊎_elim (λ before. found.first other before apart)
            (λ same. subst (IsPrintedBefore first) same (after_if name first not_less (λ is. apart (sym same ∙ is)))) (seen_more other there);
      }))
      (cases_Bool (is_lt (slice_cmp nat_cmp name first)))
    where
      after_new : is_lt (slice_cmp nat_cmp name first) ≡ true → (other : List ℕ) → SeenWith P seen other → IsPrintedBefore name other
      after_new less other before =
          ⊎_elim
          (λ same. subst (IsPrintedBefore name) (sym ((same_numbers-decides other first).0 same)) (less_if name first less))
          (λ differ. nat_list_cmp_total.trans name first other (less_if name first less)
          (found.first other before (λ is. true≢false (sym ((same_numbers-decides other first).1 is) ∙ differ))))
          (cases_Bool (same_numbers other first))

module _ (P : List ℕ → Type 0) (among : List Signature) (i : ℕ) (before : Option (List ℕ)) where
  module _ (s : Signature) (at : slice_get among i ≡ Some s) where
    one_more : (seen : List (List ℕ)) → (seen ++ names (take i among)) ++ s.name ∷ [] ≡ seen ++ names (take (i + 1) among)
    one_more seen =
        append_assoc seen (names (take i among)) (s.name ∷ [])
        ∙ ap (λ ns. seen ++ ns) (sym (ap names (take_item among i s at) ∙ map-append (λ t. t.name) (take i among) (s ∷ [])))

    pub goes_miss : (least : Option (List ℕ)) → GoesOn P (names (take i among)) before least → ¬ P s.name → GoesOn P (names (take (i + 1) among)) before least
    goes_miss least goes not_here seen start =
        subst (λ ns. IsFirstSeen P ns least) (one_more seen) (seen_miss P (seen ++ names (take i among)) s.name not_here least (goes seen start))

    pub goes_hit : (least : Option (List ℕ)) → GoesOn P (names (take i among)) before least → P s.name → (found : List ℕ) → found ≡ earlier_of least s.name → GoesOn P (names (take (i + 1) among)) before (Some found)
    goes_hit least goes here found is seen start =
        subst (λ ns. IsFirstSeen P ns (Some found)) (one_more seen)
        (subst (λ n. IsFirstSeen P ((seen ++ names (take i among)) ++ s.name ∷ []) (Some n)) (sym is) (seen_hit P (seen ++ names (take i among)) s.name here least (goes seen start)))

  pub goes_all : (least : Option (List ℕ)) → length among ≤ i → GoesOn P (names (take i among)) before least → GoesOn P (names among) before least
  goes_all least past goes = subst (λ ss. GoesOn P (names ss) before least) (take_all i among past) goes

-- a name about which two vocabularies disagree is listed
module _ (group : Group) (planner user : Vocabulary) where
  named_in : (entries : List Signature) (name : List ℕ) (s : Signature) → entry_named entries name ≡ Some s → Contains (names entries) name
  named_in entries name s at =
      subst (Contains (names entries)) (entry_has_name entries name s at) (map-contains (λ t. t.name) entries s (item_contained entries _ s at))

  covered : (name : List ℕ) → Disagree group planner user name → Contains (names (entries_in group planner) ++ names (entries_in group user)) name
  covered name disagree =
      ⊎_elim
      (λ one. Contains-append_left (names (entries_in group planner)) (names (entries_in group user)) name (named_in (entries_in group planner) name one.0 one.1))
      (λ no_one. ⊎_elim
      (λ two. Contains-append_right (names (entries_in group planner)) (names (entries_in group user)) name (named_in (entries_in group user) name two.0 two.1))
      (λ no_two. absurd (disagree (neither (has_none planner (entries_in group planner) name no_one.0) (has_none user (entries_in group user) name no_two.0))))
      (entry_cases (entries_in group user) name))
      (entry_cases (entries_in group planner) name)
    where
      neither : has group planner name ≡ None → has group user name ≡ None → AreAlike (is_shared group) (has group planner name) (has group user name)
      neither one two =
          subst (λ o. AreAlike (is_shared group) o (has group user name)) (sym one)
          (subst (λ o. AreAlike (is_shared group) None o) (sym two) (alike_none (is_shared group)))

  pub found_all : (least : Option (List ℕ)) → IsFirstSeen (Disagree group planner user) (names (entries_in group planner) ++ names (entries_in group user)) least → IsFound (AgreeIn group planner user) (Disagree group planner user) least
  found_all None none = λ name disagree. none name (covered name disagree, disagree)
  found_all (Some first) found = record {
    here = found.here.1;
    first = λ other disagree apart. found.first other (covered other disagree, disagree) apart;
  }

  -- the search over what the planner lists, and then over what the user does
  pub found_both : (first least : Option (List ℕ)) → GoesOn (Disagree group planner user) (names (entries_in group planner)) None first → GoesOn (Disagree group planner user) (names (entries_in group user)) first least
      → IsFound (AgreeIn group planner user) (Disagree group planner user) least
  found_both first least one two = found_all least (two (names (entries_in group planner)) (one [] (λ name there. omega (arith, there.0.1))))
