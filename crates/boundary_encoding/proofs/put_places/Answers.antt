-- `put_places` meets its contract: after k turns the bytes of the first k places lie after the rest of the record.
use Prim.Native.Nat.{◌+◌, ◌-◌}
use native.Mathlib.Omega.{arith}
use Rattle.boundary_encoding.proofs.Laws.{places_front_none, places_front_next, places_front_all, length_laid}
use Rattle.boundary_encoding.proofs.put_places.Goals as goal

pub loop-k-preserved : goal.loop-k-preserved
loop-k-preserved c =
    let at = c.loop-k in
    let z = c.args in
    let next = places_front_next z.out.now z.list at.k c.requires (omega arith) (omega arith) at.invariant.2 c.place_bytes-five.ensures c.put.ensures in
    (omega arith, length_laid z.out.now z.list (at.k + 1) c.requires (omega arith) (omega arith) next, next)

pub returns : goal.returns
returns c =
    let at = c.loop-k in
    places_front_all c.args.out.now c.args.list at.k c.requires (omega arith) (omega arith) at.invariant.2

pub loop-k-init : goal.loop-k-init
loop-k-init c =
    (omega arith, c.requires, places_front_none c.args.out.now c.args.list 0 c.requires (omega arith))
