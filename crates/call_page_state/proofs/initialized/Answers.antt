-- `initialized` meets its contract: field by field.
use Rattle.call_page_state.specs.Calls.{initialised}
use Rattle.call_page_state.proofs.initialized.Goals as goal

pub returns : goal.returns
unfolding initialised
returns c = cc
