use Rattle.std.proofs.Common.{◌≡◌, ◌≤◌, map, take}
use Rattle.mre_top.specs.Reads.{AreRead, asked_then, reads}
use Rattle.mre_top.proofs.reading.read_files.Given as goal

abbrev pub invariant-loop-file : goal.invariant-loop-file
invariant-loop-file g l = record {
  contents : AreRead (g.H.Shelf.held l.fn.shelf) (take l.file l.files) (map (λ bytes. bytes.items) l.contents);
  asked : g.H.Shelf.asked l.shelf ≡ asked_then (g.H.Shelf.asked l.fn.shelf) (reads (take l.file l.files));
  held : g.H.Shelf.held l.shelf ≡ g.H.Shelf.held l.fn.shelf;
  sound : g.H.Shelf.is_sound l.fn.shelf → g.H.Shelf.is_sound l.shelf;
  never_falls : g.H.Shelf.failures l.fn.shelf ≤ g.H.Shelf.failures l.shelf;
}
