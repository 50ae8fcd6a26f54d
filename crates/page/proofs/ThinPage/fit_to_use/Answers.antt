-- `ThinPage::fit_to_use` meets its contract: its tests are the clauses of `fit_to_use`, in their order.
use Rattle.std.proofs.Common.{rules}
use Rattle.sector.specs.Map.{statistics}
use Rattle.page.specs.Record.{fit_to_use}
use Rattle.page.proofs.ThinPage.fit_to_use.Goals as goal

pub returns-then-behind_zero : goal.returns-then-behind_zero
unfolding fit_to_use statistics
returns-then-behind_zero c = search rules

pub returns-else-behind_zero : goal.returns-else-behind_zero
unfolding fit_to_use statistics
returns-else-behind_zero c = search rules
