-- `word_at` meets its contract: the entries of the number of eight bytes are those of the bytes.
use mathlib.Core.Path.{◌≡◌, sym, ap₂, ◌∙◌}
use Prim.Native.Nat.{◌*◌}
use native.Mathlib.Omega.{arith}
use borrow.Author.Rules.{rules}
use lib.ListN.{length, drop, length-drop}
use lib.Seq.{length-take-le}
use Rattle.flash.proofs.Laws.{bytes_of_get_d, bytes_take, bytes_drop}
use Rattle.sector.specs.Layout.{number, field}
use Rattle.sector_map.proofs.Words.{word_bytes}
use Rattle.sector_map.specs.Words.{word_states}
use Rattle.sector_map.proofs.word_at.Goals as goal

pub returns-clause-entries : goal.returns-clause-entries
returns-clause-entries c =
    let map = c.args.map.now in
    let offset = c.args.offset in
    let word : c.from_le_bytes.result ≡ number (field offset 8 map) = search rules in
    let whole : 4 * length (field offset 8 map) ≡ 32 = omega (arith, length-take-le 8 (drop offset map) (rw length-drop (omega (arith, c.requires)))) in
    ap₂ word_states (sym whole) word ∙ word_bytes (bytes_take 8 (bytes_drop offset (bytes_of_get_d map (λ i h. (c.type_inv.map i).fits))))
