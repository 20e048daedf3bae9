-- The pieces of a sentence, as the code puts them together, are the sentence.
use Rattle.std.proofs.Common.{◌≡◌, ℕ, Bool, true, false, Some, List, [], ◌++◌, append_assoc, sym, ap, ◌∙◌}
use Rattle.std.proofs.lemmas.Result.{IfOk-weaker}
use Rattle.std.specs.Prelude.{codes, slice_get, IfOk, Result, if◌then◌else◌}
use Rattle.std.specs.Option.{option_map_or}
use Rattle.model_kit.specs.declared.vocabulary.Signature.{Signature}
use Rattle.model_kit.specs.Printed.{name_of}
use Rattle.model_kit.specs.Sentences.{makes}

-- a text that was made is an equal text
pub made_is : {E : Type 0} (made : Result (List ℕ) E) (a b : List ℕ) → IfOk made (λ text. text ≡ a) → a ≡ b → IfOk made (λ text. text ≡ b)
made_is made a b is same = IfOk-weaker made (λ text. text ≡ a) (λ text. text ≡ b) (λ text e. e ∙ same) is

pub start_is : (has : Bool) (form shown truth : List ℕ) → shown ≡ form → truth ≡ (if has then codes "is true" else codes "is not true")
    → codes "initially " ++ (shown ++ (codes " " ++ truth)) ≡ codes "initially " ++ form ++ codes (if has then " is true" else " is not true")
start_is true form shown truth e t = λ i. codes "initially " ++ (e i ++ (codes " " ++ t i))
start_is false form shown truth e t = λ i. codes "initially " ++ (e i ++ (codes " " ++ t i))

pub goal_is : (has : Bool) (form shown word : List ℕ) → shown ≡ form → word ≡ (if has then codes "has" else codes "does not have")
    → codes "the goal " ++ (word ++ (codes " " ++ shown)) ≡ codes (if has then "the goal has " else "the goal does not have ") ++ form
goal_is true form shown word e w = λ i. codes "the goal " ++ (w i ++ (codes " " ++ e i))
goal_is false form shown word e w = λ i. codes "the goal " ++ (w i ++ (codes " " ++ e i))

pub knowledge_is : (has : Bool) (word : List ℕ) → word ≡ (if has then codes "exists" else codes "does not exist") → word ≡ codes (if has then "exists" else "does not exist")
knowledge_is true word w = w
knowledge_is false word w = w

pub need_is : (has : Bool) (form shown word : List ℕ) → shown ≡ form → word ≡ (if has then codes "needs" else codes "does not need")
    → word ++ (codes " " ++ shown) ≡ codes (if has then "needs " else "does not need ") ++ form
need_is true form shown word e w = λ i. w i ++ (codes " " ++ e i)
need_is false form shown word e w = λ i. w i ++ (codes " " ++ e i)

-- what an action makes of an atom, true or false
pub makes_is : (has : Bool) (form shown word truth : List ℕ) → shown ≡ form → word ≡ (if has then codes "makes" else codes "does not make")
    → word ++ (codes " " ++ (shown ++ (codes " " ++ truth))) ≡ makes has form truth
makes_is true form shown word truth e w =
    (λ i. w i ++ (codes " " ++ (e i ++ (codes " " ++ truth)))) ∙ sym (append_assoc (codes "makes " ++ form) (codes " ") truth)
makes_is false form shown word truth e w =
    (λ i. w i ++ (codes " " ++ (e i ++ (codes " " ++ truth)))) ∙ sym (append_assoc (codes "does not make " ++ form) (codes " ") truth)

-- the planner's and the user's content, after the words that both share
pub not_is : (planner shown_planner user shown_user : List ℕ) → shown_planner ≡ planner → shown_user ≡ user
    → shown_planner ++ (codes ", not " ++ shown_user) ≡ planner ++ codes ", not " ++ user
not_is planner shown_planner user shown_user p u = (λ i. p i ++ (codes ", not " ++ u i)) ∙ sym (append_assoc planner (codes ", not ") user)

pub value_is : (form shown planner shown_planner user shown_user : List ℕ) → shown ≡ form → shown_planner ≡ planner → shown_user ≡ user
    → codes "the value of " ++ (shown ++ (codes " is " ++ (shown_planner ++ (codes ", not " ++ shown_user))))
    ≡ codes "the value of " ++ form ++ codes " is " ++ (planner ++ codes ", not " ++ user)
value_is form shown planner shown_planner user shown_user e p u =
    (λ i. codes "the value of " ++ (e i ++ (codes " is " ++ not_is planner shown_planner user shown_user p u i)))
    ∙ sym (append_assoc (codes "the value of " ++ form) (codes " is ") (planner ++ codes ", not " ++ user))

pub action_is : (actions : List Signature) (n : ℕ) (item : Signature) (shown said : List ℕ) → slice_get actions n ≡ Some item → shown ≡ item.name
    → codes "action " ++ (shown ++ (codes " " ++ said)) ≡ codes "action " ++ name_of actions n ++ codes " " ++ said
action_is actions n item shown said at is =
    (λ i. codes "action " ++ (name i ++ (codes " " ++ said))) ∙ sym (append_assoc (codes "action " ++ name_of actions n) (codes " ") said)
  where
    name : shown ≡ name_of actions n
    name = is ∙ ap (λ o. option_map_or (λ s. s.name) o []) (sym at)
