-- `put_counts` meets its contract: four words lie one after the other up to the end of the answer.
use mathlib.Core.Path.{refl, ap, ◌∙◌}
use Rattle.sector.specs.Layout.{little_endian}
use Rattle.sector.proofs.Laws.{over}
use Rattle.boundary_encoding.proofs.Laws.{words_laid}
use Rattle.boundary_encoding.proofs.put_counts.Goals as goal

pub returns : goal.returns
returns c =
    let base = c.args.out.now in
    let counts = c.args.counts in
    words_laid base (little_endian 4 counts.empty) (little_endian 4 counts.written) (little_endian 4 counts.erased) (little_endian 4 counts.illegal)
    c.requires refl refl refl refl
    (c.put.ensures ∙ ap (over base 41) c.little_endian-empty.ensures)
    (c.put-2.ensures ∙ ap (over c.put.new.out 45) c.little_endian-written.ensures)
    (c.put-3.ensures ∙ ap (over c.put-2.new.out 49) c.little_endian-erased.ensures)
    (c.put-4.ensures ∙ ap (over c.put-3.new.out 53) c.little_endian-illegal.ensures)
