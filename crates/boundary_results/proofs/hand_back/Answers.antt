-- `hand_back` meets its contract: the record is laid out where the answer is done, and stays otherwise.
use borrow.Author.Rules.{rules}
use Rattle.boundary_results.specs.Handing.{record_left}
use Rattle.boundary_results.proofs.hand_back.Goals as goal

pub returns-in-Ok-clause-buffer : goal.returns-in-Ok-clause-buffer
unfolding record_left
returns-in-Ok-clause-buffer c = search rules

pub returns-in-Err-clause-buffer : goal.returns-in-Err-clause-buffer
unfolding record_left
returns-in-Err-clause-buffer c = search rules
