-- `nvs_purge` meets its contract: the number of the call's answer.
use mathlib.Core.Path.{ap, ◌∙◌}
use Rattle.sector.specs.Answers.{number_of}
use Rattle.boundary.proofs.writing.nvs_purge.Goals as goal

pub returns : goal.returns
returns c =
    let purged = c.purge_entries-answer.ensures in
    record {
      number = c.number_of.ensures ∙ ap number_of purged.answer;
      image = purged.image;
    }
