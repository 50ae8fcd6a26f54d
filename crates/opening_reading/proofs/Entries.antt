-- The entries of an image, as the code meets them: the payload after a header as one run of bytes; states and entries from one of them on.
use mathlib.Core.Path.{◌≡◌, refl, sym, ap, ap₂, ◌∙◌}
use mathlib.Core.List.{List, [], ◌∷◌, ◌++◌}
use Prim.Native.Nat.{ℕ, zero, suc, ◌+◌, ◌-◌, ◌*◌, ◌<◌, ◌≤◌}
use native.Mathlib.Nat.{le_of_suc-le-suc, not-suc-le-zero, sub-zero}
use native.Mathlib.Numerals.{add-one}
use native.Mathlib.Omega.{arith}
use lib.ListN.{length, take, drop, length-drop, drop_of_length-le}
use lib.Seq.{drop-cons, drop-drop, take-add, take-take}
use Rattle.sector.specs.Layout.{entry_size, items_offset, entry_address, entry_at, chunks, entries_of}
use Rattle.sector.specs.declared.EntryMapState.TheVariants.{Empty}
use Rattle.sector.specs.Map.{state_at, states_of}
use Rattle.sector.proofs.Laws.{suc_entries, length-entries_of, get_d_entries_of, length-states_of, get_d_states_of}
use Rattle.opening_reading.specs.Reading.{joined}

pub take_chunks : (k n : ℕ) (bytes : List ℕ) → k ≤ n → take k (chunks n bytes) ≡ chunks k bytes
unfolding chunks
take_chunks zero n bytes h = refl
take_chunks (suc k) zero bytes h = absurd (not-suc-le-zero h)
take_chunks (suc k) (suc n) bytes h =
    ap (λ (rest : List (List ℕ)). take entry_size bytes ∷ rest) (take_chunks k n (drop entry_size bytes) (le_of_suc-le-suc h))

pub drop_chunks : (i n : ℕ) (bytes : List ℕ) → i ≤ n → drop i (chunks n bytes) ≡ chunks (n - i) (drop (entry_size * i) bytes)
unfolding chunks
drop_chunks zero n bytes h = rw sub-zero
drop_chunks (suc i) zero bytes h = absurd (not-suc-le-zero h)
drop_chunks (suc i) (suc n) bytes h =
    let less : n - i ≡ suc n - suc i = omega arith in
    drop_chunks i n (drop entry_size bytes) (le_of_suc-le-suc h)
    ∙ ap₂ (λ (m : ℕ) (rest : List ℕ). chunks m rest) less
    (drop-drop (entry_size * i) entry_size bytes ∙ ap (λ (offset : ℕ). drop offset bytes) (sym (suc_entries i)))

pub joined_chunks : (k : ℕ) (bytes : List ℕ) → joined (chunks k bytes) ≡ take (entry_size * k) bytes
unfolding chunks
joined_chunks zero bytes = refl
joined_chunks (suc k) bytes =
    ap (λ (rest : List ℕ). take entry_size bytes ++ rest) (joined_chunks k (drop entry_size bytes))
    ∙ sym (take-add entry_size (entry_size * k) bytes) ∙ ap (λ (n : ℕ). take n bytes) (sym (suc_entries k))

-- ---- of an image

-- the first bytes of the payload after entry i
pub take_joined : (image : List ℕ) (i k size : ℕ) → suc i + k ≤ 126 → size ≤ entry_size * k
    → take size (joined (take k (drop (suc i) (entries_of image)))) ≡ take size (drop (entry_address (suc i)) image)
take_joined image i k size h fits =
    let bytes = drop items_offset image in
    let left : k ≤ 126 - suc i = omega arith in
    let inside : suc i ≤ 126 = omega arith in
    ap (λ (entries : List (List ℕ)). take size (joined (take k entries))) (drop_chunks (suc i) 126 bytes inside)
    ∙ ap (λ (entries : List (List ℕ)). take size (joined entries)) (take_chunks k (126 - suc i) (drop (entry_size * suc i) bytes) left)
    ∙ ap (take size) (joined_chunks k (drop (entry_size * suc i) bytes))
    ∙ take-take size (entry_size * k) (drop (entry_size * suc i) bytes) fits
    ∙ ap (take size) (drop-drop (entry_size * suc i) items_offset image)

-- ---- from entry i on

pub states_from : (map : List ℕ) (i : ℕ) → length map ≡ 32 → i < 126 → drop i (states_of map) ≡ state_at map i ∷ drop (i + 1) (states_of map)
states_from map i long inside =
    let fits : i < length (states_of map) = rw (length-states_of map long) inside in
    rw (drop-cons (states_of map) i Empty fits, get_d_states_of map i long inside, add-one i)

pub entries_from : (image : List ℕ) (i : ℕ) → i < 126 → drop i (entries_of image) ≡ entry_at image i ∷ drop (i + 1) (entries_of image)
entries_from image i inside =
    let fits : i < length (entries_of image) = rw (length-entries_of image) inside in
    rw (drop-cons (entries_of image) i [] fits, get_d_entries_of image i inside, add-one i)

-- nothing past the last entry
pub states_past : (map : List ℕ) (i : ℕ) → length map ≡ 32 → 126 ≤ i → drop i (states_of map) ≡ []
states_past map i long past =
    let short : length (states_of map) ≤ i = omega (arith, length-states_of map long) in
    drop_of_length-le (states_of map) short

-- as many lie after entry i
pub entries_left : (image : List ℕ) (i : ℕ) → length (drop (i + 1) (entries_of image)) ≡ 125 - i
entries_left image i =
    let all = length-entries_of image in
    length-drop (i + 1) (entries_of image) ∙ omega arith
