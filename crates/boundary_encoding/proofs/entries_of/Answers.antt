-- `entries_of` meets its contract: after k turns the first k entries are those of the bytes.
use mathlib.Core.Path.{◌≡◌, sym, ap, ◌∙◌}
use mathlib.Core.List.{[]}
use Prim.Native.Nat.{ℕ, ◌+◌, ◌-◌, ◌*◌}
use native.Mathlib.Omega.{arith}
use lib.ListN.{take, drop, length-set}
use Rattle.sector.specs.Layout.{chunks}
use Rattle.sector.proofs.Laws.{length_chunks, get_d_chunks}
use Rattle.boundary_encoding.proofs.Laws.{made_next, made_whole}
use Rattle.boundary_encoding.proofs.entries_of.Goals as goal

-- an entry's bytes are 32
add_sub : (n k : ℕ) → n * k + n - n * k ≡ n
add_sub n k = omega arith

pub loop-k-preserved : goal.loop-k-preserved
loop-k-preserved c =
    let at = c.loop-k in
    let bytes = c.args.bytes.now in
    let long = length_chunks 126 bytes in
    let entry = c.array_of.ensures ∙ ap (λ (n : ℕ). take n (drop (32 * at.k) bytes)) (add_sub 32 at.k) ∙ sym (get_d_chunks 126 at.k bytes (omega arith)) in
    (omega arith, simp length-set at.invariant.1, made_next at.entries (chunks 126 bytes) at.k [] (omega arith) (omega (arith, long)) at.invariant.2 entry)

pub returns : goal.returns
returns c =
    let at = c.loop-k in
    let bytes = c.args.bytes.now in
    made_whole at.entries (chunks 126 bytes) at.k (omega arith) (omega (arith, length_chunks 126 bytes)) at.invariant.2
