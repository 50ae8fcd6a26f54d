-- `opening_marks::shut_to` meets its contract: up to the index reached the states are shut, and from there on as they were.
use Rattle.std.proofs.Common.{◌≡◌, refl, subst, List, ℕ, zero, suc, ◌+◌, ◌≤◌, cond, length, arith, rules}
use Rattle.std.specs.List.{fold, range_with_len}
use Rattle.std.proofs.lemmas.Iterator.{YieldsList-from_range}
use Rattle.std.proofs.lemmas.Iterator.Consumers.{fold_from_yields_List}
use Rattle.sector.specs.declared.EntryMapState.TheVariants.{Written, Erased}
use Rattle.sector.specs.Map.{states_of, state_at, same_state, mark_range}
use Rattle.opening_marks.specs.Marks.{shut_to}
use Rattle.opening_marks.proofs.Arrays.{bytes_of_array}
use Rattle.opening_marks.proofs.Passes.{PassedTo, passed_start, shut_step, shut_end}
use Rattle.opening_marks.proofs.shut_to.Goals as goal

-- one entry, as `shut_entry` leaves the map
abbrev shut_one : List ℕ → ℕ → List ℕ
shut_one map i = cond (same_state (state_at map i) Written) map (mark_range Erased i 1 map)

shut_all : (end : ℕ) (map now : List ℕ) (n i : ℕ) → length map ≡ 32 → end ≤ 126 → i + n ≡ end
    → PassedTo (shut_to end (states_of map)) map now i → PassedTo (shut_to end (states_of map)) map (fold shut_one now (range_with_len i n)) end
shut_all end map now zero i long fits e to =
    let there : i ≡ end = omega arith in
    subst (λ (k : ℕ). PassedTo (shut_to end (states_of map)) map now k) there to
shut_all end map now (suc n) i long fits e to =
    shut_all end map (shut_one now i) n (i + 1) long fits (omega arith) (shut_step end map now i long (omega arith) fits to)

pub returns : goal.returns
returns c =
    let map = c.args.map in
    let end = c.args.end in
    let long : length map ≡ 32 = omega arith in
    let shut : c.fold.result ≡ fold shut_one map (range_with_len 0 end) =
    fold_from_yields_List _ shut_one _ _ c.fold.ensures.ran (YieldsList-from_range 0 end end refl (omega arith)) (λ a x b q k. search rules) in
    rw shut (shut_end (shut_all end map map end 0 long c.requires (omega arith) (passed_start (shut_to end (states_of map)) map long (bytes_of_array map _ c.well_formed.0.1.1))))
