-- A run notes each word that it takes, once and in written order.
use Rattle.std.proofs.Common.{◌≡◌, ◌≢◌, ℕ, List, [], ◌∷◌, ◌++◌, map, refl, ap, sym, subst, ◌∙◌, append_assoc}
use Rattle.std.specs.List.{AllByRecursion}
use Rattle.std.proofs.lemmas.List.{append-nil, map-append}
use Rattle.pddl_text.specs.declared.fault.TextFault.{TextFault}
use Rattle.pddl_text.specs.declared.place.Place.{Place}
use Rattle.pddl_text.specs.Tokens.{Token, Word, Open, Close, Stray}
use Rattle.pddl_form.specs.declared.next.Next.{Next}
use Rattle.pddl_form.specs.declared.next.Next.TheVariants as next
use Rattle.pddl_form.specs.declared.parts.Met.{Met}
use Rattle.pddl_form.specs.declared.parts.Part.{Part}
use Rattle.pddl_form.specs.Faults.{fault_at}
use Rattle.pddl_form.specs.First.{HasForm}
use Rattle.pddl_form.specs.Mets.{words_in, word_of, IsTaken}
use Rattle.pddl_form.specs.Runs.{Run, Going, after, noted, goes, run}

-- runs that go on alike have met the same words
pub same_met : (due d : List Part) (met m : List Met) → Going due met ≡ Going d m → met ≡ m
same_met due d met m e = cc

goes_has : (n : Next) (due : List Part) (f : TextFault) (go : List Part → Run) (d : List Part) (m : List Met) (Q : Type 0) → ((then : List Part) → n ≢ next.Refused → go then ≡ Going d m → Q) → goes n due f go ≡ Going d m → Q
goes_has next.Nothing due f go d m Q more e = more due (λ no. absurd cc) e
goes_has (next.One p) due f go d m Q more e = more (p ∷ due) (λ no. absurd cc) e
goes_has (next.Two p q) due f go d m Q more e = more (p ∷ q ∷ due) (λ no. absurd cc) e
goes_has next.Refused due f go d m Q more e = absurd cc

noted_words : (p : Part) (t : Token) (met : List Met) (tokens : List Token) → map word_of (noted p t met) ++ words_in tokens ≡ map word_of met ++ words_in (t ∷ tokens)
noted_words p (Word text at from past) met tokens =
    let one : Met = record { part = p; text = text; at = at } in
    ap (λ (words : List (List ℕ × Place)). words ++ words_in tokens) (map-append word_of met (one ∷ []))
    ∙ append_assoc (map word_of met) (word_of one ∷ []) (words_in tokens)
noted_words p (Open at) met tokens = refl
noted_words p (Close at) met tokens = refl
noted_words p (Stray at) met tokens = refl

met_words : (due : List Part) (met : List Met) (tokens : List Token) (d : List Part) (m : List Met) → run due met tokens ≡ Going d m → map word_of m ≡ map word_of met ++ words_in tokens
met_words [] met [] d m e = ap (map word_of) (sym (same_met [] d met m e)) ∙ sym (append-nil (map word_of met))
met_words (p ∷ due) met [] d m e = ap (map word_of) (sym (same_met (p ∷ due) d met m e)) ∙ sym (append-nil (map word_of met))
met_words [] met (t ∷ tokens) d m e = absurd cc
met_words (p ∷ due) met (t ∷ tokens) d m e =
    goes_has (after p t) due (fault_at p t tokens) (λ then. run then (noted p t met) tokens) d m (map word_of m ≡ map word_of met ++ words_in (t ∷ tokens))
    (λ then goes-on reached. met_words then (noted p t met) tokens d m reached ∙ noted_words p t met tokens) e

all_taken : (met : List Met) (m : Met) → AllByRecursion IsTaken met → IsTaken m → AllByRecursion IsTaken (met ++ m ∷ [])
all_taken [] m all taken = (taken, tt)
all_taken (x ∷ met) m all taken = (all.0, all_taken met m all.1 taken)

noted_taken : (p : Part) (t : Token) (met : List Met) → after p t ≢ next.Refused → AllByRecursion IsTaken met → AllByRecursion IsTaken (noted p t met)
noted_taken p (Word text at from past) met goes-on all = all_taken met (record { part = p; text = text; at = at }) all goes-on
noted_taken p (Open at) met goes-on all = all
noted_taken p (Close at) met goes-on all = all
noted_taken p (Stray at) met goes-on all = all

met_taken : (due : List Part) (met : List Met) (tokens : List Token) (d : List Part) (m : List Met) → AllByRecursion IsTaken met → run due met tokens ≡ Going d m → AllByRecursion IsTaken m
met_taken [] met [] d m all e = subst (AllByRecursion IsTaken) (same_met [] d met m e) all
met_taken (p ∷ due) met [] d m all e = subst (AllByRecursion IsTaken) (same_met (p ∷ due) d met m e) all
met_taken [] met (t ∷ tokens) d m all e = absurd cc
met_taken (p ∷ due) met (t ∷ tokens) d m all e =
    goes_has (after p t) due (fault_at p t tokens) (λ then. run then (noted p t met) tokens) d m (AllByRecursion IsTaken m)
    (λ then goes-on reached. met_taken then (noted p t met) tokens d m (noted_taken p t met goes-on all) reached) e

pub form_words : (start : Part) (tokens : List Token) (met : List Met) → HasForm start tokens met → map word_of met ≡ words_in tokens
form_words start tokens met has = met_words (start ∷ []) [] tokens [] met has

pub form_taken : (start : Part) (tokens : List Token) (met : List Met) → HasForm start tokens met → AllByRecursion IsTaken met
form_taken start tokens met has = met_taken (start ∷ []) [] tokens [] met tt has
