-- The bytes that separate, begin and continue the words of a text and the names of a plan's lines.
use Rattle.std.specs.Prelude.{ℕ, ◌≢◌, Bool, List, ◌==◌, ◌&&◌, ◌||◌, not, nat_le, nat_lt, IsTrue}
use Rattle.std.specs.Prelude.{if◌then◌else◌}
use Rattle.std.specs.List.{AllByRecursion}
use Rattle.pddl_text.specs.declared.bytes.ByteKind.{ByteKind}
use Rattle.pddl_text.specs.declared.bytes.ByteKind.TheVariants.{White, Semicolon, Opening, Closing}
use Rattle.pddl_text.specs.declared.bytes.ByteKind.TheVariants.{Letter, Stray}

-- space, tab, carriage return and line feed
abbrev pub is_white : ℕ → Bool
is_white b = b == 32 || b == 9 || b == 13 || b == 10

-- 33 to 126 without `(`, `)` and `;`
abbrev pub is_word_byte : ℕ → Bool
is_word_byte b = nat_lt 32 b && nat_lt b 127 && not (b == 40 || b == 41 || b == 59)

-- neither white space, `;`, a parenthesis nor a word byte
abbrev pub is_stray : ℕ → Bool
is_stray b = not (is_white b || b == 59 || b == 40 || b == 41 || is_word_byte b)

-- space, tab and carriage return, which are dropped at both ends of a plan's line
abbrev pub is_blank : ℕ → Bool
is_blank b = b == 32 || b == 9 || b == 13

-- space and tab, which separate the names of a plan's line
abbrev pub is_space : ℕ → Bool
is_space b = b == 32 || b == 9

-- a letter, a digit or `_`
abbrev pub is_name_start : ℕ → Bool
is_name_start b =
    nat_le 65 b && nat_le b 90 || nat_le 97 b && nat_le b 122 || nat_le 48 b && nat_le b 57
    || b == 95

-- what a byte begins outside words and comments
abbrev pub kind : ℕ → ByteKind
kind b =
    if is_white b then White
    else (if b == 59 then Semicolon
    else (if b == 40 then Opening
    else (if b == 41 then Closing
    else (if is_word_byte b then Letter else Stray))))

-- no byte is a line feed
abbrev pub OnOneLine : List ℕ → Type 0
OnOneLine bytes = AllByRecursion (λ b. b ≢ 10) bytes

-- a word may have each of the bytes
abbrev pub AreWordBytes : List ℕ → Type 0
AreWordBytes bytes = AllByRecursion (λ b. IsTrue (is_word_byte b)) bytes

-- each of the bytes is a blank
abbrev pub AreBlank : List ℕ → Type 0
AreBlank bytes = AllByRecursion (λ b. IsTrue (is_blank b)) bytes
