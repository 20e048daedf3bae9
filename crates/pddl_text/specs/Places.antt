-- The places of the bytes of a text. Lines and columns count from 1, and positions from 0.
use Rattle.std.specs.Prelude.{ℕ, ◌+◌, List, [], ◌∷◌, ◌==◌, if◌then◌else◌}
use Rattle.pddl_text.specs.declared.place.Place.{Place}
use Rattle.pddl_text.specs.declared.place.Spot.{Spot}

-- the spot of the first byte
abbrev pub start : Spot
start = record { place = record { line = 1; column = 1 }; position = 0 }

-- the spot after this byte: a line feed ends a line, and a column counts bytes
abbrev pub after : Spot → ℕ → Spot
after s b = record {
  place =
      if b == 10 then record { line = s.place.line + 1; column = 1 }
      else record { line = s.place.line; column = s.place.column + 1 };
  position = s.position + 1;
}

-- the spot after these bytes
abbrev pub after_all : Spot → List ℕ → Spot
after_all s [] = s
after_all s (b ∷ bytes) = after_all (after s b) bytes

-- the place just past the last byte of a text
abbrev pub past_of : List ℕ → Place
past_of bytes = (after_all start bytes).place
