-- `opening_reading::all_usable` meets its contract: each state is asked of the map at its index.
use Rattle.std.proofs.Common.{◌≡◌, refl, sym, ap, ◌∙◌, Bool, ◌&&◌, ℕ, zero, suc, ◌+◌, ◌≤◌, List, length, drop, arith, rules}
use Rattle.std.specs.List.{list_all, range_with_len}
use Rattle.std.proofs.lemmas.Iterator.{YieldsList-from_range}
use Rattle.std.proofs.lemmas.Iterator.Search.{all_from_yields_List}
use Rattle.sector.specs.Map.{state_at, states_of}
use Rattle.opening_reading.specs.Reading.{is_usable, usable}
use Rattle.opening_reading.proofs.Entries.{states_from}
use Rattle.opening_reading.proofs.all_usable.Goals as goal

usable_range : (map : List ℕ) (first count : ℕ) → length map ≡ 32 → first + count ≤ 126
    → usable count (drop first (states_of map)) ≡ list_all (λ index. is_usable (state_at map index)) (range_with_len first count)
usable_range map first zero long fits = refl
usable_range map first (suc count) long fits =
    rw (states_from map first long (omega arith))
    (ap (λ (rest : Bool). is_usable (state_at map first) && rest) (usable_range map (first + 1) count long (omega arith)))

pub returns : goal.returns
returns c =
    let args = c.args in
    let long : length args.map ≡ 32 = omega arith in
    all_from_yields_List (λ index. is_usable (state_at args.map index)) _ _ _ c.all.ensures.ran (YieldsList-from_range args.first (args.first + args.count) args.count refl (omega arith)) (λ x b q k. search rules)
    ∙ sym (usable_range args.map args.first args.count long (omega arith))
