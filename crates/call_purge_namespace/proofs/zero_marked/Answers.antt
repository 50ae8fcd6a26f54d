-- `call_purge_namespace::zero_marked` meets its contract: the marks from i on, zeroed in what there is, are all of them zeroed in the image.
use mathlib.Core.Path.{◌≡◌, sym, ap, ◌∙◌}
use mathlib.Core.Bool.{Bool, false, cond}
use mathlib.Core.List.{List, []}
use native.Mathlib.Omega.{arith}
use lib.ListN.{drop, get_or, replicate, drop_of_length-le}
use Rattle.flash.specs.Flash.{units, run}
use Rattle.sector.specs.Layout.{entry_size, entry_address}
use Rattle.call_purge_namespace.specs.PurgeNamespace.{zero_units}
use Rattle.call_purge_namespace.proofs.Laws.{run_marked}
use Rattle.call_purge_namespace.proofs.zero_marked.Goals as goal
use Rattle.call_purge_namespace.proofs.zero_marked.Goals.{then-marked, else-marked}

pub loop-i-preserved : goal.loop-i-preserved
unfolding run
loop-i-preserved c =
    let at = c.loop-i in
    let marks = c.args.marks.now in
    let turn : c.if-marked.image ≡ run (cond (get_or marks at.i false) (units (entry_address at.i) (replicate entry_size 0)) []) at.image =
    elim c.if-marked.branch [
      | then-marked w ↦ w.image-is ∙ w.zero_entry.ensures ∙ rw w.if-marked.true
      | else-marked w ↦ w.image-is ∙ rw w.if-marked.false
    ] in
    run_marked marks at.i at.image (omega arith) turn ∙ at.invariant

pub returns : goal.returns
unfolding zero_units run
returns c =
    let at = c.loop-i in
    let marks = c.args.marks.now in
    let none : drop at.i marks ≡ [] = drop_of_length-le marks {i = at.i} (omega arith) in
    sym (ap (λ (rest : List Bool). run (zero_units at.i rest) at.image) none) ∙ at.invariant
