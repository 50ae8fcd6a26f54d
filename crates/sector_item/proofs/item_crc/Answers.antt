-- `sector_item::item_crc` meets its contract: the two parts of the entry, laid one after the other, fill the 28 bytes.
use mathlib.Core.Path.{◌≡◌, ap, ◌∙◌}
use mathlib.Core.List.{List, ◌++◌, append-nil}
use Prim.Native.Nat.{ℕ}
use native.Mathlib.Omega.{arith}
use borrow.Rule.Slice.PartMut.{put_mid}
use lib.ListN.{length, take, drop, length-take, length-drop, replicate}
use lib.Seq.{take_at, drop_at, take_all}
use Rattle.crc.specs.Crc.{crc32}
use Rattle.sector.specs.Item.{item_crc, crc_start}
use Rattle.sector_item.proofs.item_crc.Goals as goal

-- the first four bytes, and behind them what is from byte 8 on
laid : {first second : List ℕ} (entry : List ℕ) → length entry ≡ 32 → first ≡ take 4 entry → second ≡ take 24 (drop 8 entry)
    → put_mid 4 24 (first ++ replicate 24 0) second ≡ take 4 entry ++ drop 8 entry
laid entry long f s =
    let four : length (take 4 entry) ≡ 4 = simp length-take (omega arith) in
    let rest : take 24 (drop 8 entry) ≡ drop 8 entry = take_all 24 (drop 8 entry) (simp length-drop (omega arith)) in
    rw (f, s, rest, take_at (take 4 entry) (replicate 24 0) 4 four, drop_at (take 4 entry) (replicate 24 0) 4 four, append-nil)

pub returns : goal.returns
unfolding item_crc
returns c =
    c.crc32.ensures ∙ ap (crc32 crc_start) (laid c.args.entry (omega arith) c.copy_from_slice.ensures.after c.copy_from_slice-2.ensures.after)
