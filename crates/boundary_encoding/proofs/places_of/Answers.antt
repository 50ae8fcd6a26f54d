-- `places_of` meets its contract: after k turns the first k places are those of the bytes.
use mathlib.Core.Path.{sym, ap, ◌∙◌}
use Prim.Native.Nat.{◌-◌, ◌*◌}
use native.Mathlib.Omega.{arith}
use lib.ListN.{drop, length-set}
use lib.Seq.{drop-drop}
use Rattle.page.specs.Record.{no_item}
use Rattle.boundary_encoding.specs.Encoding.{place_of, places_of}
use Rattle.boundary_encoding.proofs.Laws.{made_next, made_whole, length-places_of, get_d_places_of}
use Rattle.boundary_encoding.proofs.places_of.Goals as goal

pub loop-k-preserved : goal.loop-k-preserved
loop-k-preserved c =
    let at = c.loop-k in
    let bytes = c.args.bytes.now in
    let target = places_of 126 (drop 45 bytes) in
    let long = length-places_of 126 (drop 45 bytes) in
    let place = c.place_at.ensures ∙ ap place_of (sym (drop-drop (5 * at.k) 45 bytes)) ∙ sym (get_d_places_of 126 at.k (drop 45 bytes) (omega arith)) in
    (omega arith, simp length-set at.invariant.1, made_next at.list target at.k no_item (omega arith) (omega (arith, long)) at.invariant.2 place)

pub returns : goal.returns
returns c =
    let at = c.loop-k in
    let bytes = c.args.bytes.now in
    made_whole at.list (places_of 126 (drop 45 bytes)) at.k (omega arith) (omega (arith, length-places_of 126 (drop 45 bytes))) at.invariant.2
