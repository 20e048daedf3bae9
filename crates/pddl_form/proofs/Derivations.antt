-- A run takes exactly the signs that the table derives, part by part.
use Rattle.std.proofs.Common.{◌≡◌, List, [], ◌∷◌, ◌++◌, map, refl, ap, sym, subst, ◌∙◌, append_assoc}
use Rattle.std.proofs.lemmas.List.{append-nil}
use Rattle.pddl_text.specs.Tokens.{Token, Word, Open, Close, Stray}
use Rattle.pddl_form.specs.declared.next.Next.{Next}
use Rattle.pddl_form.specs.declared.next.Next.TheVariants as next
use Rattle.pddl_form.specs.declared.parts.Met.{Met}
use Rattle.pddl_form.specs.declared.parts.Part.{Part}
use Rattle.pddl_form.specs.Faults.{fault_at}
use Rattle.pddl_form.specs.First.{IsText}
use Rattle.pddl_form.specs.Grammar.{Sign, Says, Opens, Closes, Strays, sign}
use Rattle.pddl_form.specs.Runs.{Going, after, noted, goes, run}
use Rattle.pddl_form.specs.Table.{after_word, after_open, after_close}
use Rattle.pddl_form.specs.Words.{sort}

abbrev pub after_sign : Part → Sign → Next
after_sign p (Says text) = after_word p (sort text)
after_sign p Opens = after_open p
after_sign p Closes = after_close p
after_sign p Strays = next.Refused

-- the signs are those of the part, by the table only
pub data Meets : Part → List Sign → Type 0 where
  stop : {p : Part} {s : Sign} → after_sign p s ≡ next.Nothing → Meets p (s ∷ [])
  one : {p q : Part} {s : Sign} {rest : List Sign} → after_sign p s ≡ next.One q → Meets q rest → Meets p (s ∷ rest)
  two : {p q r : Part} {s : Sign} {first rest : List Sign} → after_sign p s ≡ next.Two q r → Meets q first → Meets r rest → Meets p (s ∷ (first ++ rest))

after_is : (p : Part) (t : Token) → after p t ≡ after_sign p (sign t)
after_is p (Word text at from past) = refl
after_is p (Open at) = refl
after_is p (Close at) = refl
after_is p (Stray at) = refl

-- ---- what a run takes is derived

Derives : List Part → List Sign → Type 0
Derives [] signs = signs ≡ []
Derives (p ∷ due) signs = (first : List Sign) × (rest : List Sign) × Meets p first × Derives due rest × (signs ≡ first ++ rest)

module _ (p : Part) (due : List Part) (met m : List Met) (t : Token) (tokens : List Token) where
  derives_by : (n : Next) → after p t ≡ n → ((then : List Part) → run then (noted p t met) tokens ≡ Going [] m → Derives then (map sign tokens))
      → goes n due (fault_at p t tokens) (λ then. run then (noted p t met) tokens) ≡ Going [] m → Derives (p ∷ due) (sign t ∷ map sign tokens)
  unfolding Derives
  derives_by next.Nothing is more e = (sign t ∷ [], map sign tokens, stop (sym (after_is p t) ∙ is), more due e, refl)
  derives_by (next.One q) is more e =
      let d = more (q ∷ due) e in
      (sign t ∷ d.0, d.1, one (sym (after_is p t) ∙ is) d.2, d.3, ap (λ (x : List Sign). sign t ∷ x) d.4)
  derives_by (next.Two q r) is more e =
      let d = more (q ∷ r ∷ due) e in
      let c = d.3 in (
        sign t ∷ (d.0 ++ c.0),
        c.1,
        two (sym (after_is p t) ∙ is) d.2 c.2,
        c.3,
        ap (λ (x : List Sign). sign t ∷ x) (d.4 ∙ ap (λ (x : List Sign). d.0 ++ x) c.4 ∙ sym (append_assoc d.0 c.0 c.1)),
      )
  derives_by next.Refused is more e = absurd cc

derives : (due : List Part) (met m : List Met) (tokens : List Token) → run due met tokens ≡ Going [] m → Derives due (map sign tokens)
unfolding Derives
derives [] met m [] e = refl
derives (p ∷ due) met m [] e = absurd cc
derives [] met m (t ∷ tokens) e = absurd cc
derives (p ∷ due) met m (t ∷ tokens) e = derives_by p due met m t tokens (after p t) refl (λ then. derives then (noted p t met) m tokens) e

-- ---- what is derived a run takes

-- a run takes the tokens up to these, which have the signs that are left
record Takes (p : Part) (due : List Part) (met : List Met) (tokens : List Token) (more : List Sign) : Type 0 where
  now : List Met
  left : List Token
  goes_on : run (p ∷ due) met tokens ≡ run due now left
  signs : map sign left ≡ more

module _ (p : Part) (due : List Part) (met : List Met) (s : Sign) (t : Token) (left : List Token) (same : sign t ≡ s) where
  goes_as : (n : Next) → after_sign p s ≡ n → run (p ∷ due) met (t ∷ left) ≡ goes n due (fault_at p t left) (λ then. run then (noted p t met) left)
  goes_as n is = ap (λ (x : Next). goes x due (fault_at p t left) (λ then. run then (noted p t met) left)) (after_is p t ∙ ap (after_sign p) same ∙ is)

takes : {p : Part} {text : List Sign} → Meets p text → (due : List Part) (met : List Met) (tokens : List Token) (more : List Sign) → map sign tokens ≡ text ++ more → Takes p due met tokens more
takes (stop {p} {s} is) due met [] more e = absurd cc
takes (one {p} {q} {s} {rest} is m) due met [] more e = absurd cc
takes (two {p} {q} {r} {s} {first} {rest} is m n) due met [] more e = absurd cc
takes (stop {p} {s} is) due met (t ∷ left) more e =
    let same : sign t ≡ s = cc in
    let later : map sign left ≡ more = cc in
    record { now = noted p t met; left = left; goes_on = goes_as p due met s t left same next.Nothing is; signs = later }
takes (one {p} {q} {s} {rest} is m) due met (t ∷ left) more e =
    let same : sign t ≡ s = cc in
    let later : map sign left ≡ rest ++ more = cc in
    let k = takes m due (noted p t met) left more later in
    record { now = k.now; left = k.left; goes_on = goes_as p due met s t left same (next.One q) is ∙ k.goes_on; signs = k.signs }
takes (two {p} {q} {r} {s} {first} {rest} is m n) due met (t ∷ left) more e =
    let same : sign t ≡ s = cc in
    let later : map sign left ≡ (first ++ rest) ++ more = cc in
    let k = takes m (r ∷ due) (noted p t met) left (rest ++ more) (later ∙ append_assoc first rest more) in
    let j = takes n due k.now k.left more k.signs in
    record { now = j.now; left = j.left; goes_on = goes_as p due met s t left same (next.Two q r) is ∙ k.goes_on ∙ j.goes_on; signs = j.signs }

no_tokens : (left : List Token) (met : List Met) → map sign left ≡ [] → run [] met left ≡ Going [] met
no_tokens [] met e = refl
no_tokens (t ∷ left) met e = absurd cc

-- ---- whole texts

pub text_meets : (start : Part) (tokens : List Token) → IsText start tokens → Meets start (map sign tokens)
unfolding Derives
text_meets start tokens text =
    let d = derives (start ∷ []) [] text.0 tokens text.1 in
    subst (Meets start) (sym (d.4 ∙ ap (λ (x : List Sign). d.0 ++ x) d.3 ∙ append-nil d.0)) d.2

pub meets_text : (start : Part) (tokens : List Token) → Meets start (map sign tokens) → IsText start tokens
meets_text start tokens meets =
    let k = takes meets [] [] tokens [] (sym (append-nil (map sign tokens))) in
    (k.now, k.goes_on ∙ no_tokens k.left k.now k.signs)
