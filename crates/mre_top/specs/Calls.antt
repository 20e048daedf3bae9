-- One call, seen from outside: the request that its words make, and the shelf and the two sinks as
-- they were before it and as they are after it. What a shelf holds, what it was asked and what a
-- sink holds may be unknown.
use Rattle.std.specs.Prelude.{◌≡◌, ℕ, List, map, Option, String, string_bytes}
use Rattle.std.specs.declared.alloc.Global.{Global}
use Rattle.mre_outside.specs.Shelves.{Files}
use Rattle.mre_outside.specs.declared.shelf.Shelf as shelf
use Rattle.mre_outside.specs.declared.shelf.ShelfCall.{ShelfCall}
use Rattle.mre_outside.specs.declared.sink.Sink as sink
use Rattle.mre_words.specs.declared.request.Request.{Request}
use Rattle.mre_words.specs.Requests.{requested}

-- a value before the call and after it
pub record Change (X : Type 0) : Type 0 where
  pub old : X
  pub new : X

-- a shelf: what it holds, what it was asked, how often it failed, and whether it is sound
pub record ShelfChange : Type 1 where
  pub held : Change (Option Files)
  pub asked : Change (Option (List ShelfCall))
  pub failures : Change ℕ
  pub sound : Type 0
  pub still_sound : Type 0

-- a sink: what it holds, how often it failed, whether it is sound, and that nothing of it changed
pub record SinkChange : Type 1 where
  pub written : Change (Option (List ℕ))
  pub failures : Change ℕ
  pub sound : Type 0
  pub still_sound : Type 0
  pub untouched : Type 0

-- the request, the shelf of files, the sink of answers and the sink of refusals
pub record Call : Type 1 where
  pub request : Option Request
  pub shelf : ShelfChange
  pub out : SinkChange
  pub faults : SinkChange

-- ---- a call by its shelf and its sinks, of whatever types

abbrev pub shelf_change : {H : Type 0} → shelf.Ghosts H → H → H → ShelfChange
shelf_change of old new = record {
  held = record { old = of.held old; new = of.held new };
  asked = record { old = of.asked old; new = of.asked new };
  failures = record { old = of.failures old; new = of.failures new };
  sound = of.is_sound old;
  still_sound = of.is_sound new;
}

abbrev pub sink_change : {S : Type 0} → sink.Ghosts S → S → S → SinkChange
sink_change of old new = record {
  written = record { old = of.written old; new = of.written new };
  failures = record { old = of.failures old; new = of.failures new };
  sound = of.is_sound old;
  still_sound = of.is_sound new;
  untouched = new ≡ old;
}

abbrev pub call_of : {H S E : Type 0} → shelf.Ghosts H → sink.Ghosts S → sink.Ghosts E
    → Option Request → H → H → S → S → E → E → Call
call_of shelf out faults request shelf_old shelf_new out_old out_new faults_old faults_new =
    record {
      request = request;
      shelf = shelf_change shelf shelf_old shelf_new;
      out = sink_change out out_old out_new;
      faults = sink_change faults faults_old faults_new;
    }

-- what the words ask for
abbrev pub asked_by : List (String Global) → Option Request
asked_by words = requested (map string_bytes words)
