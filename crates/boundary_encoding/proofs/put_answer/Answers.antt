-- `put_answer` meets its contract: type byte, number and item lie one after the other, and the counts after them.
use mathlib.Core.Path.{◌≡◌, refl, ap, ◌∙◌}
use mathlib.Core.List.{List, [], ◌∷◌, ◌++◌}
use Prim.Native.Nat.{ℕ}
use native.Mathlib.Omega.{arith}
use lib.ListN.{length}
use Rattle.sector.specs.Layout.{little_endian}
use Rattle.sector.proofs.Laws.{over}
use Rattle.boundary_encoding.specs.Encoding.{statistics_bytes, answer_bytes}
use Rattle.boundary_encoding.proofs.Laws.{parts_laid}
use Rattle.boundary_encoding.proofs.put_answer.Goals as goal

pub returns : goal.returns
unfolding answer_bytes
returns c =
    let item_long : length c.args.item ≡ 32 = omega arith in
    let z = c.args in
    let eight = c.little_endian_8-eight.ensures in
    c.put_counts.ensures
    ∙ ap (λ (front : List ℕ). front ++ statistics_bytes z.counts)
    (parts_laid z.out.now (z.byte ∷ []) (little_endian 8 z.value) z.item 1 8 32 refl refl item_long
    c.put.ensures (c.put-2.ensures ∙ ap (over c.put.new.out 1) eight) c.put-3.ensures)
