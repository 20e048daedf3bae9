-- The words of a text break no rule of names, or have one first fault.
use Rattle.std.proofs.Common.{◌≡◌, ℕ, ◌≤◌, zero, suc, Bool, true, false, Some, None, Option, List, [], ◌∷◌, ◌++◌, refl, sym, ap, subst, ◌∙◌, arith, append_assoc}
use Rattle.std.specs.Prelude.{if◌then◌else◌}
use Rattle.std.proofs.lemmas.Bool.{true≢false}
use Rattle.std.proofs.lemmas.List.{append-nil}
use Rattle.mre_base.proofs.Options.{same_some}
use Rattle.pddl_text.specs.declared.fault.TextFault.{TextFault}
use Rattle.pddl_text.specs.declared.fault.TextRule.{TextRule}
use Rattle.pddl_text.specs.declared.fault.TextRule.TheVariants as rule
use Rattle.pddl_names.specs.declared.role.Word.{Word}
use Rattle.pddl_names.specs.Listings.{Declared}
use Rattle.pddl_names.specs.Naming.{breaks, IsNamed, IsMisnamed}
use Rattle.pddl_names.specs.FirstNames.{first_rule, fault_or, first_broken}
use Rattle.pddl_names.specs.PlanNames.{rank}

-- ---- the first rule

-- no rule of names is broken
abbrev pub NoneBroken : (TextRule → Bool) → Type 0
NoneBroken broken = (broken rule.Twice ≡ false) × (broken rule.TypeCycle ≡ false) × (broken rule.Undeclared ≡ false) × (broken rule.WrongArity ≡ false) × (broken rule.WrongType ≡ false)

-- the rule is broken, and no rule before it
pub record IsFirstRule (broken : TextRule → Bool) (first : TextRule) : Type 0 where
  pub is : broken first ≡ true
  pub least : (r : TextRule) → broken r ≡ true → rank first ≤ rank r

module _ (broken : TextRule → Bool) where
  clash : (r : TextRule) {A : Type 0} → broken r ≡ false → broken r ≡ true → A
  clash r miss hit = absurd (true≢false (sym hit ∙ miss))

  least_twice : (r : TextRule) → 0 ≤ rank r
  least_twice r = omega arith

  least_cycle : broken rule.Twice ≡ false → (r : TextRule) → broken r ≡ true → 1 ≤ rank r
  least_cycle a rule.Twice hit = clash rule.Twice a hit
  least_cycle a rule.TypeCycle hit = omega arith
  least_cycle a rule.Undeclared hit = omega arith
  least_cycle a rule.WrongArity hit = omega arith
  least_cycle a rule.WrongType hit = omega arith
  least_cycle a _ hit = omega arith

  least_undeclared : broken rule.Twice ≡ false → broken rule.TypeCycle ≡ false → (r : TextRule) → broken r ≡ true → 2 ≤ rank r
  least_undeclared a b rule.Twice hit = clash rule.Twice a hit
  least_undeclared a b rule.TypeCycle hit = clash rule.TypeCycle b hit
  least_undeclared a b rule.Undeclared hit = omega arith
  least_undeclared a b rule.WrongArity hit = omega arith
  least_undeclared a b rule.WrongType hit = omega arith
  least_undeclared a b _ hit = omega arith

  least_arity : broken rule.Twice ≡ false → broken rule.TypeCycle ≡ false → broken rule.Undeclared ≡ false → (r : TextRule) → broken r ≡ true → 3 ≤ rank r
  least_arity a b c rule.Twice hit = clash rule.Twice a hit
  least_arity a b c rule.TypeCycle hit = clash rule.TypeCycle b hit
  least_arity a b c rule.Undeclared hit = clash rule.Undeclared c hit
  least_arity a b c rule.WrongArity hit = omega arith
  least_arity a b c rule.WrongType hit = omega arith
  least_arity a b c _ hit = omega arith

  least_type : broken rule.Twice ≡ false → broken rule.TypeCycle ≡ false → broken rule.Undeclared ≡ false → broken rule.WrongArity ≡ false → (r : TextRule) → broken r ≡ true → 4 ≤ rank r
  least_type a b c d rule.Twice hit = clash rule.Twice a hit
  least_type a b c d rule.TypeCycle hit = clash rule.TypeCycle b hit
  least_type a b c d rule.Undeclared hit = clash rule.Undeclared c hit
  least_type a b c d rule.WrongArity hit = clash rule.WrongArity d hit
  least_type a b c d rule.WrongType hit = omega arith
  least_type a b c d _ hit = omega arith

  -- what the search for the first rule answers
  abbrev pub Tells : Option TextRule → Type 0
  Tells None = NoneBroken broken
  Tells (Some first) = IsFirstRule broken first

  told_by : (a b c d e : Bool) → broken rule.Twice ≡ a → broken rule.TypeCycle ≡ b → broken rule.Undeclared ≡ c → broken rule.WrongArity ≡ d → broken rule.WrongType ≡ e
      → Tells (if a then Some rule.Twice else (if b then Some rule.TypeCycle else (if c then Some rule.Undeclared else (if d then Some rule.WrongArity else (if e then Some rule.WrongType else None)))))
  told_by true b c d e p q r s t = record { is = p; least = λ r hit. least_twice r }
  told_by false true c d e p q r s t = record { is = q; least = least_cycle p }
  told_by false false true d e p q r s t = record { is = r; least = least_undeclared p q }
  told_by false false false true e p q r s t = record { is = s; least = least_arity p q r }
  told_by false false false false true p q r s t = record { is = t; least = least_type p q r s }
  told_by false false false false false p q r s t = (p, q, r, s, t)

  pub rule_told : Tells (first_rule broken)
  rule_told = told_by (broken rule.Twice) (broken rule.TypeCycle) (broken rule.Undeclared) (broken rule.WrongArity) (broken rule.WrongType) refl refl refl refl refl

-- ---- where lists are split

heads : {X : Type 0} (x y : X) (xs ys : List X) → x ∷ xs ≡ y ∷ ys → x ≡ y
heads x y xs ys e = cc

tails : {X : Type 0} (x y : X) (xs ys : List X) → x ∷ xs ≡ y ∷ ys → xs ≡ ys
tails x y xs ys e = cc

no_split : {X : Type 0} (front : List X) (x : X) (back : List X) {A : Type 0} → [] ≡ front ++ x ∷ back → A
no_split [] x back e = absurd (cc)
no_split (y ∷ front) x back e = absurd (cc)

-- of two splits of one list, one is before the other or they are the same
data Compare {X : Type 0} (one : List X) (x : X) (past : List X) (two : List X) (y : X) (rest : List X) : Type 0 where
  equal : one ≡ two → x ≡ y → past ≡ rest → Compare one x past two y rest
  first_shorter : (between : List X) → two ≡ one ++ x ∷ between → past ≡ between ++ y ∷ rest → Compare one x past two y rest
  second_shorter : (between : List X) → one ≡ two ++ y ∷ between → rest ≡ between ++ x ∷ past → Compare one x past two y rest

longer : {X : Type 0} (a b : X) (one : List X) (x : X) (past : List X) (two : List X) (y : X) (rest : List X) → a ≡ b → Compare one x past two y rest → Compare (a ∷ one) x past (b ∷ two) y rest
longer a b one x past two y rest e (equal p q r) = equal (λ i. e i ∷ p i) q r
longer a b one x past two y rest e (first_shorter between p q) = first_shorter between (λ i. sym e i ∷ p i) q
longer a b one x past two y rest e (second_shorter between p q) = second_shorter between (λ i. e i ∷ p i) q

compared : {X : Type 0} (one : List X) (x : X) (past : List X) (two : List X) (y : X) (rest : List X) → one ++ x ∷ past ≡ two ++ y ∷ rest → Compare one x past two y rest
compared [] x past [] y rest e = equal refl (heads x y past rest e) (tails x y past rest e)
compared [] x past (b ∷ two) y rest e = first_shorter two (λ i. sym (heads x b past (two ++ y ∷ rest) e) i ∷ two) (tails x b past (two ++ y ∷ rest) e)
compared (a ∷ one) x past [] y rest e = second_shorter one (λ i. heads a y (one ++ x ∷ past) rest e i ∷ one) (sym (tails a y (one ++ x ∷ past) rest e))
compared (a ∷ one) x past (b ∷ two) y rest e =
    longer a b one x past two y rest (heads a b (one ++ x ∷ past) (two ++ y ∷ rest) e) (compared one x past two y rest (tails a b (one ++ x ∷ past) (two ++ y ∷ rest) e))

-- ---- the words of a text

module _ (base : Declared) where
  sound_word : (front : List Word) (w : Word) (back : List Word) → NoneBroken (breaks base front w back) → (r : TextRule) → breaks base front w back r ≡ false
  sound_word front w back sound rule.Twice = sound.0
  sound_word front w back sound rule.TypeCycle = sound.1
  sound_word front w back sound rule.Undeclared = sound.2
  sound_word front w back sound rule.WrongArity = sound.3
  sound_word front w back sound rule.WrongType = sound.4
  sound_word front w back sound rule.Byte = refl
  sound_word front w back sound rule.Close = refl
  sound_word front w back sound rule.Deep = refl
  sound_word front w back sound rule.Open = refl
  sound_word front w back sound rule.Form = refl
  sound_word front w back sound rule.Unsupported = refl
  sound_word front w back sound rule.NotWhole = refl
  sound_word front w back sound rule.Reserved = refl

  -- each word after these breaks no rule
  abbrev SoundFrom : List Word → List Word → Type 0
  SoundFrom before rest = (front : List Word) (w : Word) (back : List Word) → rest ≡ front ++ w ∷ back → (r : TextRule) → breaks base (before ++ front) w back r ≡ false

  sound_more : (before : List Word) (v : Word) (rest : List Word) → NoneBroken (breaks base before v rest) → SoundFrom (before ++ v ∷ []) rest → SoundFrom before (v ∷ rest)
  sound_more before v rest here later [] w back e r =
      (λ i. breaks base (append-nil before i) (sym (heads v w rest back e) i) (sym (tails v w rest back e) i) r) ∙ sound_word before v rest here r
  sound_more before v rest here later (f ∷ front) w back e r =
      (λ i. breaks base (before ++ (sym (heads v f rest (front ++ w ∷ back) e) i ∷ front)) w back r)
      ∙ ap (λ (b : List Word). breaks base b w back r) (sym (append_assoc before (v ∷ []) front))
      ∙ later front w back (tails v f rest (front ++ w ∷ back) e) r

  sound_by : (before : List Word) (v : Word) (rest : List Word) (o : Option TextRule) → Tells (breaks base before v rest) o
      → fault_or v o (first_broken base (before ++ v ∷ []) rest) ≡ None → (first_broken base (before ++ v ∷ []) rest ≡ None → SoundFrom (before ++ v ∷ []) rest) → SoundFrom before (v ∷ rest)
  sound_by before v rest None told e later = sound_more before v rest told (later e)
  sound_by before v rest (Some r) told e later = absurd (cc)

  sound_from : (rest before : List Word) → first_broken base before rest ≡ None → SoundFrom before rest
  sound_from [] before e = λ front w back split r. no_split front w back split
  sound_from (v ∷ rest) before e =
      sound_by before v rest (first_rule (breaks base before v rest)) (rule_told (breaks base before v rest)) e (sound_from rest (before ++ v ∷ []))

  -- the first fault after these words
  record FoundFrom (before rest : List Word) (fault : TextFault) : Type 0 where
    front : List Word
    word : Word
    back : List Word
    split : rest ≡ front ++ word ∷ back
    told : fault ≡ record { at = word.at; rule = fault.rule; word = word.text }
    broken : breaks base (before ++ front) word back fault.rule ≡ true
    earlier : (f : List Word) (w : Word) (b : List Word) → front ≡ f ++ w ∷ b → (r : TextRule) → breaks base (before ++ f) w (b ++ word ∷ back) r ≡ false
    least : (r : TextRule) → breaks base (before ++ front) word back r ≡ true → rank fault.rule ≤ rank r

  found_here : (before : List Word) (v : Word) (rest : List Word) (r : TextRule) → IsFirstRule (breaks base before v rest) r → FoundFrom before (v ∷ rest) (record { at = v.at; rule = r; word = v.text })
  found_here before v rest r first = record {
    front = [];
    word = v;
    back = rest;
    split = refl;
    told = refl;
    broken = ap (λ (b : List Word). breaks base b v rest r) (append-nil before) ∙ first.is;
    earlier = λ f w b e q. no_split f w b e;
    least = λ q hit. first.least q (ap (λ (b : List Word). breaks base b v rest q) (sym (append-nil before)) ∙ hit);
  }

  earlier_more : (before : List Word) (v : Word) (rest front : List Word) (word : Word) (back : List Word) → NoneBroken (breaks base before v rest) → rest ≡ front ++ word ∷ back
      → ((f : List Word) (w : Word) (b : List Word) → front ≡ f ++ w ∷ b → (r : TextRule) → breaks base ((before ++ v ∷ []) ++ f) w (b ++ word ∷ back) r ≡ false)
      → (f : List Word) (w : Word) (b : List Word) → v ∷ front ≡ f ++ w ∷ b → (r : TextRule) → breaks base (before ++ f) w (b ++ word ∷ back) r ≡ false
  earlier_more before v rest front word back here split later [] w b e r =
      (λ i. breaks base (append-nil before i) (sym (heads v w front b e) i) (sym (tails v w front b e) i ++ word ∷ back) r)
      ∙ ap (λ (l : List Word). breaks base before v l r) (sym split) ∙ sound_word before v rest here r
  earlier_more before v rest front word back here split later (x ∷ f) w b e r =
      (λ i. breaks base (before ++ (sym (heads v x front (f ++ w ∷ b) e) i ∷ f)) w (b ++ word ∷ back) r)
      ∙ ap (λ (l : List Word). breaks base l w (b ++ word ∷ back) r) (sym (append_assoc before (v ∷ []) f))
      ∙ later f w b (tails v x front (f ++ w ∷ b) e) r

  found_later : (before : List Word) (v : Word) (rest : List Word) (fault : TextFault) → NoneBroken (breaks base before v rest) → FoundFrom (before ++ v ∷ []) rest fault → FoundFrom before (v ∷ rest) fault
  found_later before v rest fault here later = record {
    front = v ∷ later.front;
    word = later.word;
    back = later.back;
    split = ap (λ (l : List Word). v ∷ l) later.split;
    told = later.told;
    broken = ap (λ (b : List Word). breaks base b later.word later.back fault.rule) (sym (append_assoc before (v ∷ []) later.front)) ∙ later.broken;
    earlier = earlier_more before v rest later.front later.word later.back here later.split later.earlier;
    least = λ q hit. later.least q (ap (λ (b : List Word). breaks base b later.word later.back q) (append_assoc before (v ∷ []) later.front) ∙ hit);
  }

  found_by : (before : List Word) (v : Word) (rest : List Word) (fault : TextFault) (o : Option TextRule) → Tells (breaks base before v rest) o
      → fault_or v o (first_broken base (before ++ v ∷ []) rest) ≡ Some fault
      → (first_broken base (before ++ v ∷ []) rest ≡ Some fault → FoundFrom (before ++ v ∷ []) rest fault) → FoundFrom before (v ∷ rest) fault
  found_by before v rest fault None told e later = found_later before v rest fault told (later e)
  found_by before v rest fault (Some r) told e later =
      subst (FoundFrom before (v ∷ rest)) (same_some (record { at = v.at; rule = r; word = v.text }) fault e) (found_here before v rest r told)

  found_from : (rest before : List Word) (fault : TextFault) → first_broken base before rest ≡ Some fault → FoundFrom before rest fault
  found_from [] before fault e = absurd (cc)
  found_from (v ∷ rest) before fault e =
      found_by before v rest fault (first_rule (breaks base before v rest)) (rule_told (breaks base before v rest)) e (found_from rest (before ++ v ∷ []) fault)

  -- ---- a whole text

  pub named_of : (words : List Word) → first_broken base [] words ≡ None → IsNamed base words
  named_of words e = sound_from words [] e

  pub misnamed_of : (words : List Word) (fault : TextFault) → first_broken base [] words ≡ Some fault → IsMisnamed base words fault
  misnamed_of words fault e =
      let found = found_from words [] fault e in
      record {
        before = found.front;
        word = found.word;
        rest = found.back;
        split = found.split;
        told = found.told;
        broken = found.broken;
        earlier = found.earlier;
        least = found.least;
      }

  pub not_both : (words : List Word) (fault : TextFault) → IsNamed base words → IsMisnamed base words fault → ⊥
  not_both words fault named fails = true≢false (sym fails.broken ∙ named fails.before fails.word fails.rest fails.split fault.rule)

  -- the rule of names at a place of their order
  abbrev rule_at : ℕ → TextRule
  rule_at zero = rule.Twice
  rule_at (suc zero) = rule.TypeCycle
  rule_at (suc (suc zero)) = rule.Undeclared
  rule_at (suc (suc (suc zero))) = rule.WrongArity
  rule_at _ = rule.WrongType

  ranked : (front : List Word) (w : Word) (back : List Word) (r : TextRule) → breaks base front w back r ≡ true → r ≡ rule_at (rank r)
  ranked front w back rule.Twice hit = refl
  ranked front w back rule.TypeCycle hit = refl
  ranked front w back rule.Undeclared hit = refl
  ranked front w back rule.WrongArity hit = refl
  ranked front w back rule.WrongType hit = refl
  ranked front w back rule.Byte hit = absurd (true≢false (sym hit))
  ranked front w back rule.Close hit = absurd (true≢false (sym hit))
  ranked front w back rule.Deep hit = absurd (true≢false (sym hit))
  ranked front w back rule.Open hit = absurd (true≢false (sym hit))
  ranked front w back rule.Form hit = absurd (true≢false (sym hit))
  ranked front w back rule.Unsupported hit = absurd (true≢false (sym hit))
  ranked front w back rule.NotWhole hit = absurd (true≢false (sym hit))
  ranked front w back rule.Reserved hit = absurd (true≢false (sym hit))

  not_before : (words : List Word) (one two : TextFault) (first : IsMisnamed base words one) (second : IsMisnamed base words two) (between : List Word)
      → second.before ≡ first.before ++ first.word ∷ between → first.rest ≡ between ++ second.word ∷ second.rest → ⊥
  not_before words one two first second between cut rest =
      true≢false (sym first.broken ∙ ap (λ (l : List Word). breaks base first.before first.word l one.rule) rest ∙ second.earlier first.before first.word between cut one.rule)

  one_by : (words : List Word) (one two : TextFault) (first : IsMisnamed base words one) (second : IsMisnamed base words two)
      → Compare first.before first.word first.rest second.before second.word second.rest → one ≡ two
  one_by words one two first second (first_shorter between cut rest) = absurd (not_before words one two first second between cut rest)
  one_by words one two first second (second_shorter between cut rest) = absurd (not_before words two one second first between cut rest)
  one_by words one two first second (equal p q r) =
      let there : breaks base first.before first.word first.rest two.rule ≡ true = (λ i. breaks base (p i) (q i) (r i) two.rule) ∙ second.broken in
      let here : breaks base second.before second.word second.rest one.rule ≡ true = (λ i. breaks base (sym p i) (sym q i) (sym r i) one.rule) ∙ first.broken in
      let up = first.least two.rule there in
      let down = second.least one.rule here in
      let ranks : rank one.rule ≡ rank two.rule = omega (arith, up, down) in
      let rules = ranked first.before first.word first.rest one.rule first.broken ∙ ap rule_at ranks ∙ sym (ranked second.before second.word second.rest two.rule second.broken) in
      first.told ∙ (λ i. record { at = (q i).at; rule = rules i; word = (q i).text }) ∙ sym second.told

  pub one_fault : (words : List Word) (one two : TextFault) → IsMisnamed base words one → IsMisnamed base words two → one ≡ two
  one_fault words one two first second =
      one_by words one two first second (compared first.before first.word first.rest second.before second.word second.rest (sym first.split ∙ second.split))
