-- `cut_after` meets its contract: where opening refuses, the definition has the Uninitialized record.
use Rattle.std.proofs.Common.{refl, List, ℕ}
use Rattle.opening.specs.Opening.{opening}
use Rattle.opening.proofs.Laws.{opening_none}
use Rattle.sector.proofs.Laws.{answer_given}
use Rattle.cuts_append.specs.Cutting.{appended_image}
use Rattle.cuts_append.proofs.Append.cut_after.Goals as goal

pub returns : goal.returns
returns c =
    let a = c.args.self.now in
    let image : List ℕ = appended_image a.before.image a.before.page a.request a.payload.now c.args.stop in
    rw (
      c.append-answer.ensures.answer,
      c.open_page-opened.ensures.opened,
      c.open_page-opened.ensures.image,
      c.append-answer.ensures.sector,
      answer_given (opening image).answer (opening image).page,
      opening_none image,
    ) refl
