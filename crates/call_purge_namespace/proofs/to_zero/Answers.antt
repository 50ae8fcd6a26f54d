-- `call_purge_namespace::to_zero` meets its contract: the marks of the entries passed, and those of the walk from i on, are those of the whole walk.
use mathlib.Core.Path.{◌≡◌, sym, ap, ap₂, ◌∙◌}
use mathlib.Core.Bool.{Bool}
use mathlib.Core.List.{List, ◌∷◌, ◌++◌, append-nil}
use Prim.Native.Nat.{ℕ, ◌+◌}
use native.Mathlib.Omega.{arith}
use lib.ListN.{drop}
use lib.Seq.{take_all}
use Rattle.sector.specs.Layout.{entries_of}
use Rattle.sector.specs.Map.{states_of}
use Rattle.call_purge_namespace.specs.PurgeNamespace.{purged, passed, to_zero}
use Rattle.call_purge_namespace.specs.declared.Step.{Step}
use Rattle.call_purge_namespace.proofs.Laws.{to_zero-passed, to_zero_header, to_zero_past, marks_next}
use Rattle.call_purge_namespace.proofs.to_zero.Invariants.{walk}
use Rattle.call_purge_namespace.proofs.to_zero.Goals as goal
use Rattle.call_purge_namespace.proofs.to_zero.Goals.{then-step-gt0, else-step-gt0}

pub loop-i-preserved : goal.loop-i-preserved
loop-i-preserved c =
    let args = c.args in
    let image = args.image.now in
    let at = c.loop-i in
    let i : ℕ = at.i in
    let step : Step = at.step in
    let rest : Step → ℕ → List Bool = walk image args.map args.namespace in
    let turn : rest step i ≡ c.if-step-gt0.step.zeroed ∷ rest c.if-step-gt0.step (i + 1) =
    elim c.if-step-gt0.branch [
      | then-step-gt0 w ↦
          to_zero-passed args.namespace args.map image i (omega arith) (omega arith) step.behind step.zeroed w.if-step-gt0.true
          ∙ ap (λ (next : Step). next.zeroed ∷ rest next (i + 1)) (sym w.step-is)
      | else-step-gt0 w ↦
          let none : step.behind ≡ 0 = omega (arith, w.if-step-gt0.false) in
          ap (λ (k : ℕ). to_zero args.namespace k step.zeroed (drop i (states_of args.map)) (drop i (entries_of image))) none
          ∙ to_zero_header args.namespace args.map image i (omega arith) (omega arith) step.zeroed
          (w.step_at-step.ensures.0 ∙ ap₂ (purged args.namespace) w.state_at.ensures w.entry_at.ensures)
          (w.step_at-step.ensures.1 ∙ ap₂ passed w.state_at.ensures w.entry_at.ensures)
          ∙ ap (λ (next : Step). next.zeroed ∷ rest next (i + 1)) (sym w.step-is)
    ] in
    marks_next at.mark-items i c.if-step-gt0.step.zeroed _ (omega arith) at.invariant turn

pub returns : goal.returns
returns c =
    let at = c.loop-i in
    let args = c.args in
    let front = take_all at.i at.mark-items (omega arith) in
    let behind = to_zero_past args.namespace _ _ args.map _ at.i (omega arith) (omega arith) in
    sym (ap₂ (λ (xs ys : List Bool). xs ++ ys) front behind ∙ append-nil at.mark-items) ∙ at.invariant
