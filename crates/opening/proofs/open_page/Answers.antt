-- `open_page` meets its contract: no opening has more units than the stop.
use mathlib.Core.Path.{ap, ◌∙◌}
use native.Mathlib.Omega.{arith}
use Rattle.opening.proofs.Laws.{handed}
use Rattle.opening.proofs.Units.{opening_plain}
use Rattle.opening.proofs.open_page.Goals as goal

pub returns : goal.returns
returns c =
    let plain = opening_plain c.args.image.now 16 (omega arith) in
    record {
      opened = c.open_stopped.ensures.opened ∙ ap handed plain.0;
      image = c.open_stopped.ensures.image ∙ plain.1;
    }
