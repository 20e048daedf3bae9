-- The joint vocabulary of two that agree is one, and it has all that either has.
use Rattle.std.proofs.Common.{◌≡◌, ℕ, ◌<◌, ◌||◌, true, false, List, [], ◌∷◌, ◌++◌, length, get_or, map, Some, refl, sym, ap, subst, ◌∙◌, ⊎_elim}
use Rattle.std.specs.Prelude.{◌≢◌, not, nat_lt, All, IsTrue, filter, codes, slice_get}
use Rattle.std.specs.List.{list_all}
use Rattle.std.specs.Option.{option_map, option_map_or}
use Rattle.std.proofs.lemmas.Bool.{and_parts, and_from, or_left, or_right, or_cases, not-true, cases_Bool}
use Rattle.std.proofs.lemmas.Bool.Decides.{Decides-ltb}
use Rattle.std.proofs.lemmas.List.{get_or-map, length-map}
use Rattle.std.proofs.lemmas.List.Elements.{All-append, All-map, All-filter, All-weaker, filter_passes}
use Rattle.std.proofs.lemmas.List.Kept.{AllPairs-filter}
use Rattle.std.proofs.lemmas.Option.{slice_get_within, slice_get-get_or}
use Rattle.model_kit.specs.declared.vocabulary.Vocabulary.{Vocabulary}
use Rattle.model_kit.specs.declared.vocabulary.Signature.{Signature}
use Rattle.model_kit.specs.Names.{is_name}
use Rattle.model_kit.specs.Words.{is_signature, is_vocabulary}
use Rattle.model_kit.specs.Pairs.{Agree, IsJoint, type_name, type_in, names, number_of, is_named}
use Rattle.mre_base.proofs.Loops.{All_item}
use Rattle.model_kit.proofs.Distinct.{all_decides}
use Rattle.model_kit.proofs.WordFacts.{SignatureFacts, signature_types, facts_of_words, words_sound}
use Rattle.joint_models.specs.declared.group.Group.TheVariants.{Types, Objects, Actions, Predicates, Functions}
use Rattle.joint_models.specs.Listed.{typed_entry, entry_named}
use Rattle.joint_models.specs.Disagreements.{entries_in, has}
use Rattle.joint_models.specs.Renaming.{number_at, numbers_between, joined_by, HasAllOf, HasAll}
use Rattle.joint_models.proofs.Entries.{entry_has_name, entry_is, not_named, is_named_at, entry_if_named}
use Rattle.joint_models.proofs.Alikeness.{has_of, has_from, has_entry, entries_apart, alike_in, alike_both}
use Rattle.joint_models.proofs.Mapped.{map_map, apart_append, apart_map, all_at, at_mapped, typed_names_are, entry_append, entry_after, entry_passing, entry_retyped, number_between}
use Rattle.joint_models.proofs.Growing.{retyped}
use Rattle.joint_models.proofs.Keeping.{typed_at, renamed}
use Rattle.mre_base.proofs.Listed.{item_at, map_same}

module _ (planner user : Vocabulary) (agree : Agree planner user) where
  -- the planner's number of a user's type
  abbrev pub new_types : List ℕ
  new_types = numbers_between (map typed_entry user.types) (map typed_entry planner.types)

  -- a type of the user is there
  type_there : (n : ℕ) → n < length user.types → (type_in user planner n < length planner.types) × (type_name planner (type_in user planner n) ≡ type_name user n)
  type_there n lt =
      let e = item_at user.types n lt in
      let name : type_name user n ≡ e.0.0 = ap (λ o. option_map_or (λ entry. entry.0) o []) e.1 in
      let had = has_from user (entries_in Types user) e.0.0 (typed_entry e.0) (entry_is (entries_in Types user) (entries_apart Types user) n (typed_entry e.0) (typed_at user.types n e.0 e.1)) in
      let there = has_entry planner (entries_in Types planner) e.0.0 (type_name user e.0.1 ∷ []) (alike_in planner user agree Types e.0.0 ∙ had) in
      let f = at_mapped typed_entry planner.types (number_of (names (map typed_entry planner.types)) e.0.0) there.0 there.1 in
      let number : type_in user planner n ≡ number_of (names (map typed_entry planner.types)) e.0.0 = λ i. number_of (sym (typed_names_are planner.types) i) (name i) in
      let at : slice_get planner.types (type_in user planner n) ≡ Some f.0 = ap (slice_get planner.types) number ∙ f.1 in
      let named : f.0.0 ≡ e.0.0 = ap (λ s. s.name) f.2 ∙ entry_has_name (entries_in Types planner) e.0.0 there.0 there.1 in
      (slice_get_within planner.types (type_in user planner n) f.0 at, ap (λ o. option_map_or (λ entry. entry.0) o []) at ∙ named ∙ sym name)

  new_type : (n : ℕ) → n < length user.types → number_at new_types n ≡ type_in user planner n
  new_type n lt =
      let e = item_at user.types n lt in
      number_between (map typed_entry user.types) (map typed_entry planner.types) n (typed_entry e.0) (typed_at user.types n e.0 e.1)
      ∙ (λ i. number_of (typed_names_are planner.types i) (ap (λ o. option_map_or (λ entry. entry.0) o []) (sym e.1) i))

  -- ---- entries of signatures

  -- the planner's entries, and after them those that the user alone has
  abbrev pub joint_of : List Signature → List Signature → List Signature
  joint_of ss ts = ss ++ map (renamed user planner) (filter (λ s. not (is_named ss s.name)) ts)

  module _ (ss ts : List Signature) (ts_kept : SignatureFacts user.types ts) where
    params_listed : All (λ s. All (λ t. t < length user.types) s.params) ts
    params_listed = All-weaker (λ s. IsTrue (is_signature user.types s)) (λ s. All (λ t. t < length user.types) s.params) (signature_types user.types) ts ts_kept.fit

    pub joined_is : joined_by new_types ss ts ≡ joint_of ss ts
    joined_is =
        ap (λ rest. ss ++ rest)
        (map_same (retyped new_types) (renamed user planner) (filter (λ s. not (is_named ss s.name)) ts)
        (All-filter (λ s. not (is_named ss s.name)) (λ s. retyped new_types s ≡ renamed user planner s) ts
        (All-weaker (λ s. All (λ t. t < length user.types) s.params) (λ s. retyped new_types s ≡ renamed user planner s) retyped_is ts params_listed)))
      where
        retyped_is : (s : Signature) → All (λ t. t < length user.types) s.params → retyped new_types s ≡ renamed user planner s
        retyped_is s listed =
            let params = map_same (number_at new_types) (type_in user planner) s.params (λ k d lt. new_type (get_or s.params k d) (listed k d lt)) in
            λ i. record { name = s.name; params = params i }

    renamed_passes : (s : Signature) → IsTrue (is_signature user.types s) → IsTrue (is_signature planner.types (renamed user planner s))
    renamed_passes s passes =
        let parts = and_parts (is_name s.name) (list_all (λ type. nat_lt type (length user.types)) s.params) passes in
        let listed = signature_types user.types s passes in
        and_from (is_name s.name) (list_all (λ type. nat_lt type (length planner.types)) (map (type_in user planner) s.params)) parts.0
        ((all_decides (λ type. nat_lt type (length planner.types)) (λ type. type < length planner.types) (λ type. Decides-ltb type (length planner.types)) (map (type_in user planner) s.params)).1
        (All-map (λ t. t < length planner.types) (type_in user planner) s.params (λ k d lt. (type_there (get_or s.params k d) (listed k d lt)).0)))

    pub joint_kept : SignatureFacts planner.types ss → SignatureFacts planner.types (joint_of ss ts)
    joint_kept ss_kept = record {
      fit = All-append (λ s. IsTrue (is_signature planner.types s)) ss (map (renamed user planner) (filter (λ s. not (is_named ss s.name)) ts)) ss_kept.fit
          (All-map (λ s. IsTrue (is_signature planner.types s)) (renamed user planner) (filter (λ s. not (is_named ss s.name)) ts)
          (All-filter (λ s. not (is_named ss s.name)) (λ s. IsTrue (is_signature planner.types (renamed user planner s))) ts
          (All-weaker (λ s. IsTrue (is_signature user.types s)) (λ s. IsTrue (is_signature planner.types (renamed user planner s))) renamed_passes ts ts_kept.fit)));
      apart = apart_append (λ s t. s.name ≢ t.name) ss (map (renamed user planner) (filter (λ s. not (is_named ss s.name)) ts)) ss_kept.apart
          (apart_map (λ s t. s.name ≢ t.name) (renamed user planner) (filter (λ s. not (is_named ss s.name)) ts)
          (AllPairs-filter (λ s t. s.name ≢ t.name) (λ s. not (is_named ss s.name)) ts ts_kept.apart))
          across;
    }
      where
        across : (i j : ℕ) (d : Signature) → i < length ss → j < length (map (renamed user planner) (filter (λ s. not (is_named ss s.name)) ts))
            → (get_or ss i d).name ≢ (get_or (map (renamed user planner) (filter (λ s. not (is_named ss s.name)) ts)) j d).name
        across i j d i_lt j_lt same =
            let rest = filter (λ s. not (is_named ss s.name)) ts in
            let j_rest : j < length rest = rw (← length-map rest (renamed user planner)) j_lt in
            let t = get_or rest j d in
            let passes = filter_passes (λ s. not (is_named ss s.name)) ts j d j_rest in
            not_named ss t.name (not-true (is_named ss t.name) passes) i (get_or ss i d) (slice_get-get_or ss i d i_lt)
            (same ∙ ap (λ s. s.name) (get_or-map (renamed user planner) rest j d d j_rest))

    -- each entry is the planner's or the user's
    pub joint_named : All (λ s. IsTrue (is_named ss s.name || is_named ts s.name)) (joint_of ss ts)
    joint_named =
        All-append (λ s. IsTrue (is_named ss s.name || is_named ts s.name)) ss (map (renamed user planner) (filter (λ s. not (is_named ss s.name)) ts))
        (all_at (λ s. IsTrue (is_named ss s.name || is_named ts s.name)) ss (λ n s at. or_left (is_named ss s.name) (is_named ts s.name) (is_named_at ss n s at)))
        (All-map (λ s. IsTrue (is_named ss s.name || is_named ts s.name)) (renamed user planner) (filter (λ s. not (is_named ss s.name)) ts)
        (All-filter (λ s. not (is_named ss s.name)) (λ s. IsTrue (is_named ss s.name || is_named ts s.name)) ts
        (all_at (λ s. IsTrue (is_named ss s.name || is_named ts s.name)) ts (λ n s at. or_right (is_named ss s.name) (is_named ts s.name) (is_named_at ts n s at)))))

  functions_named : All (λ s. s.name ≢ codes "total-cost") (joint_of planner.functions user.functions)
  functions_named =
      All-append (λ s. s.name ≢ codes "total-cost") planner.functions (map (renamed user planner) (filter (λ s. not (is_named planner.functions s.name)) user.functions)) (facts_of_words planner).no_total_cost
      (All-map (λ s. s.name ≢ codes "total-cost") (renamed user planner) (filter (λ s. not (is_named planner.functions s.name)) user.functions)
      (All-filter (λ s. not (is_named planner.functions s.name)) (λ s. s.name ≢ codes "total-cost") user.functions (facts_of_words user).no_total_cost))

  -- the joint lists are those of a vocabulary
  pub joint_sound : is_vocabulary planner.types planner.objects (joint_of planner.predicates user.predicates) (joint_of planner.functions user.functions) (joint_of planner.actions user.actions) ≡ true
  joint_sound =
      let own = facts_of_words planner in
      let other = facts_of_words user in
      words_sound planner.types planner.objects (joint_of planner.predicates user.predicates) (joint_of planner.functions user.functions) (joint_of planner.actions user.actions) (record {
        types_kept = own.types_kept;
        objects_kept = own.objects_kept;
        predicates_kept = joint_kept planner.predicates user.predicates other.predicates_kept own.predicates_kept;
        functions_kept = joint_kept planner.functions user.functions other.functions_kept own.functions_kept;
        no_total_cost = functions_named;
        actions_kept = joint_kept planner.actions user.actions other.actions_kept own.actions_kept;
      })

  -- ---- what the joint vocabulary has

  module _ (words : Vocabulary) (joint : IsJoint planner user words) where
    names_stay : type_name words ≡ type_name planner
    names_stay = λ i t. option_map_or (λ entry. entry.0) (slice_get (joint.types i) t) []

    from_planner : (ss ts entries : List Signature) → entries ≡ joint_of ss ts → (name : List ℕ) (types : List (List ℕ)) → has_of planner ss name ≡ Some types → has_of words entries name ≡ Some types
    from_planner ss ts entries are name types had =
        let s = has_entry planner ss name types had in
        ap (λ es. has_of words es name) are
        ∙ has_from words (joint_of ss ts) name s.0 (entry_append ss _ name s.0 s.1)
        ∙ ap (λ f. Some (map f s.0.params)) names_stay ∙ ap Some s.2

    user_alone : (ss ts entries : List Signature) → SignatureFacts user.types ts → entries ≡ joint_of ss ts → (name : List ℕ) (t : Signature) → entry_named ts name ≡ Some t
        → ((n : ℕ) (s : Signature) → slice_get ss n ≡ Some s → s.name ≢ name) → is_named ss name ≡ false → has_of words entries name ≡ Some (map (type_name user) t.params)
    user_alone ss ts entries ts_kept are name t at none not_there =
        let listed = All_item ts (number_of (names ts) name) t at (λ s. All (λ p. p < length user.types) s.params) (params_listed ss ts ts_kept) in
        ap (λ es. has_of words es name) are
        ∙ has_from words (joint_of ss ts) name (renamed user planner t)
        (entry_after ss (map (renamed user planner) (filter (λ s. not (is_named ss s.name)) ts)) name none
        ∙ entry_retyped (renamed user planner) (λ s. refl) (filter (λ s. not (is_named ss s.name)) ts) name t
        (entry_passing (λ n. not (is_named ss n)) ts name (ap not not_there) ∙ at))
        ∙ ap (λ f. Some (map f (map (type_in user planner) t.params))) names_stay
        ∙ ap Some (map_map (type_name planner) (type_in user planner) t.params
        ∙ map_same (λ p. type_name planner (type_in user planner p)) (type_name user) t.params (λ k d lt. (type_there (get_or t.params k d) (listed k d lt)).1))

    pub planner_whole : HasAllOf words planner
    planner_whole Types name types had =
        (λ i. option_map (λ s. map (names_stay i) s.params) (entry_named (map typed_entry (joint.types i)) name)) ∙ had
    planner_whole Objects name types had =
        (λ i. option_map (λ s. map (names_stay i) s.params) (entry_named (map typed_entry (joint.objects i)) name)) ∙ had
    planner_whole Actions name types had = from_planner planner.actions user.actions words.actions joint.actions name types had
    planner_whole Predicates name types had = from_planner planner.predicates user.predicates words.predicates joint.predicates name types had
    planner_whole Functions name types had = from_planner planner.functions user.functions words.functions joint.functions name types had

    from_user : (ss ts entries : List Signature) → SignatureFacts user.types ts → entries ≡ joint_of ss ts → (name : List ℕ)
        → ((a b : List (List ℕ)) → has_of planner ss name ≡ Some a → has_of user ts name ≡ Some b → a ≡ b) → (types : List (List ℕ)) → has_of user ts name ≡ Some types → has_of words entries name ≡ Some types
    from_user ss ts entries ts_kept are name same types had =
        let t = has_entry user ts name types had in
        ⊎_elim
        (λ named. let s = entry_if_named ss name named in
        let own = has_from planner ss name s.0 s.1 in
        from_planner ss ts entries are name types (own ∙ ap Some (same (map (type_name planner) s.0.params) types own had)))
        (λ not_there. user_alone ss ts entries ts_kept are name t.0 t.1 (not_named ss name not_there) not_there ∙ ap Some t.2)
        (cases_Bool (is_named ss name))

    pub user_whole : HasAllOf words user
    user_whole Types name types had = planner_whole Types name types (alike_in planner user agree Types name ∙ had)
    user_whole Objects name types had = planner_whole Objects name types (alike_in planner user agree Objects name ∙ had)
    user_whole Actions name types had =
        from_user planner.actions user.actions words.actions (facts_of_words user).actions_kept joint.actions name (alike_both (has Actions planner name) (has Actions user name) (alike_in planner user agree Actions name)) types had
    user_whole Predicates name types had =
        from_user planner.predicates user.predicates words.predicates (facts_of_words user).predicates_kept joint.predicates name (alike_both (has Predicates planner name) (has Predicates user name) (alike_in planner user agree Predicates name)) types had
    user_whole Functions name types had =
        from_user planner.functions user.functions words.functions (facts_of_words user).functions_kept joint.functions name (alike_both (has Functions planner name) (has Functions user name) (alike_in planner user agree Functions name)) types had

    pub actions_known : HasAll planner.actions user.actions words.actions
    actions_known = subst (HasAll planner.actions user.actions) (sym joint.actions) (joint_named planner.actions user.actions (facts_of_words user).actions_kept)

    pub actions_known_turned : HasAll user.actions planner.actions words.actions
    actions_known_turned =
        All-weaker (λ s. IsTrue (is_named planner.actions s.name || is_named user.actions s.name)) (λ s. IsTrue (is_named user.actions s.name || is_named planner.actions s.name))
        (λ s one. ⊎_elim (λ first. or_right (is_named user.actions s.name) (is_named planner.actions s.name) first) (λ second. or_left (is_named user.actions s.name) (is_named planner.actions s.name) second)
        (or_cases (is_named planner.actions s.name) (is_named user.actions s.name) one)) words.actions actions_known
