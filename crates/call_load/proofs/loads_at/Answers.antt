-- `call_load::loads_at` meets its contract: its part of the image is the entry, and the bytes read are the entry's.
use Rattle.std.proofs.Common.{◌≡◌, sym, ◌∙◌, ℕ, ◌+◌, ◌-◌, List, Bool, take, drop, arith}
use Rattle.flash.specs.Flash.{all_ones}
use Rattle.sector.specs.Item.{loads}
use Rattle.sector.specs.Layout.{entry_address, entry_at}
use Rattle.call_load.proofs.loads_at.Goals as goal

-- the part that is looked at is the entry
asked : (image : List ℕ) (index : ℕ) {ones answered : Bool}
    → ones ≡ all_ones (take (entry_address index + 32 - entry_address index) (drop (entry_address index) image)) → ones ≡ answered
    → all_ones (entry_at image index) ≡ answered
asked image index e a =
    let long : entry_address index + 32 - entry_address index ≡ 32 = omega arith in
    rw long at (sym e ∙ a)

pub returns-then-all_ones : goal.returns-then-all_ones
unfolding loads
returns-then-all_ones c = rw (asked c.args.image.now c.args.index c.all_ones.ensures c.if-all_ones.true)

pub returns-then-is_known : goal.returns-then-is_known
unfolding loads
returns-then-is_known c =
    rw (asked c.args.image.now c.args.index c.all_ones.ensures c.if-all_ones.false, ← c.requires.2, sym c.is_known.ensures ∙ c.if-is_known.true)
    c.crc_right.ensures

pub returns-else-is_known : goal.returns-else-is_known
unfolding loads
returns-else-is_known c =
    rw (asked c.args.image.now c.args.index c.all_ones.ensures c.if-all_ones.false, ← c.requires.2, sym c.is_known.ensures ∙ c.if-is_known.false)
    c.if-is_known.false
