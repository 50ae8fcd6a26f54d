-- Laws of the sector's definitions, in the order of specs/: Layout, Answers, Map, Item; after Layout, bytes laid over others, repeated and copied.
-- Not here: what a run of marks does to each state (Marks).
use mathlib.Core.Path.{◌≡◌, refl, sym, ap, ◌∙◌}
use mathlib.Core.Bool.{Bool, true, false, ◌&&◌, cond, and-false, false≢true}
use mathlib.Core.List.{List, [], ◌∷◌, ◌++◌}
use Prim.Native.Nat.{ℕ, zero, suc, ◌+◌, ◌*◌, ◌/◌, ◌%◌, ◌^◌, ◌<◌, ◌≤◌}
use native.Mathlib.Nat.{le_of_suc-le-suc, not-suc-le-zero, div-one, div-lt_iff_lt-mul, pow-suc}
use native.Mathlib.Numerals.{add-one}
use native.Mathlib.Omega.{arith}
use lib.ListN.{length, get_or, take, drop, length-append, length-take, length-drop, length-set}
use lib.Dec.{eqb}
use lib.Pointwise.{pointwise}
use lib.Seq.{drop-cons, drop-drop, take-take, get_or-take}
use borrow.Author.Tests.{ne_eqb}
pub use Rattle.flash.proofs.Lists.{drop_replicate, copied_next}
use Rattle.flash.proofs.Lists.{Bytes, bytes_nil, bytes_cons}
use Rattle.std.specs.Prelude.{Ok, Err, is_ok}
use Rattle.sector.specs.declared.Refusal.{Refusal}
use Rattle.sector.specs.declared.Refusal.TheVariants.{Stopped}
use Rattle.sector.specs.declared.EntryMapState.{EntryMapState}
use Rattle.sector.specs.declared.EntryMapState.TheVariants.{Empty, Written, Erased, Illegal}
use Rattle.sector.specs.Layout.{sector_size, entries_per_page, entry_size, items_offset, entry_address, number, little_endian, field, same_bytes, entry_at, chunks, entries_of}
use Rattle.sector.specs.Answers.{Answer, Done, value_where_done, answer_in, Check, refusal, accepted}
use Rattle.sector.specs.Map.{bits_of, state_at, unpack, states_of, count_in, statistics, mark, mark_range}
use Rattle.sector.specs.Item.{item_bytes, sized_data}

-- ---- little-endian numbers

pub number-little_endian : (n x : ℕ) → x < 256 ^ n → number (little_endian n x) ≡ x
number-little_endian zero x h = omega arith
number-little_endian (suc n) x h =
    let bound : x < 256 ^ n * 256 = rw (pow-suc 256 n) at h in
    let rest = number-little_endian n (x / 256) ((div-lt_iff_lt-mul (omega arith)).1 bound) in
    omega arith

-- and bytes are those of the number that they hold
pub little_endian-number : {bytes : List ℕ} → Bytes bytes → little_endian (length bytes) (number bytes) ≡ bytes
little_endian-number bytes_nil = refl
little_endian-number (bytes_cons {byte} {bytes} h b) =
    let low : (byte + 256 * number bytes) % 256 ≡ byte = omega arith in
    let rest : (byte + 256 * number bytes) / 256 ≡ number bytes = omega arith in
    rw (low, rest) (ap (λ (more : List ℕ). byte ∷ more) (little_endian-number b))

pub field_cons : (offset n : ℕ) (bytes : List ℕ) → offset < length bytes
    → field offset (suc n) bytes ≡ get_or bytes offset 0 ∷ field (offset + 1) n bytes
field_cons offset n bytes h = rw (drop-cons bytes offset 0 h, add-one offset)

-- ---- bytes compared

-- lists of two lengths are not the same
pub same_bytes-length : (xs ys : List ℕ) → (length xs ≡ length ys → ⊥) → same_bytes xs ys ≡ false
same_bytes-length [] [] h = absurd (h refl)
same_bytes-length [] (y ∷ ys) h = ne_eqb _ _ (λ e. h (sym e))
same_bytes-length (x ∷ xs) [] h = refl
same_bytes-length (x ∷ xs) (y ∷ ys) h =
    ap (λ (b : Bool). eqb x y && b) (same_bytes-length xs ys (λ e. h (ap suc e))) ∙ and-false (eqb x y)

-- two lists from k on: their first elements, and what is after them
pub same_bytes-drop : (xs ys : List ℕ) (k : ℕ) → k < length xs → k < length ys
    → same_bytes (drop k xs) (drop k ys) ≡ (eqb (get_or xs k 0) (get_or ys k 0) && same_bytes (drop (k + 1) xs) (drop (k + 1) ys))
same_bytes-drop xs ys k inside within = rw (add-one k, drop-cons xs k 0 inside, drop-cons ys k 0 within)

-- the library compares lists of bytes pair by pair
pub same_bytes_pairs : (xs ys : List ℕ) → pointwise eqb xs ys ≡ same_bytes xs ys
same_bytes_pairs [] [] = refl
same_bytes_pairs [] (y ∷ ys) = sym (ne_eqb (suc (length ys)) 0 (λ e. omega arith))
same_bytes_pairs (x ∷ xs) [] = refl
same_bytes_pairs (x ∷ xs) (y ∷ ys) = ap (λ (rest : Bool). eqb x y && rest) (same_bytes_pairs xs ys)

-- ---- the entries of an image

-- one entry more
pub suc_entries : (n : ℕ) → 32 * suc n ≡ 32 + 32 * n
suc_entries n = omega arith

pub length_chunks : (n : ℕ) (bytes : List ℕ) → length (chunks n bytes) ≡ n
unfolding chunks
length_chunks zero bytes = refl
length_chunks (suc n) bytes = ap suc (length_chunks n (drop entry_size bytes))

pub get_d_chunks : (n i : ℕ) (bytes : List ℕ) → i < n → get_or (chunks n bytes) i [] ≡ take entry_size (drop (entry_size * i) bytes)
unfolding chunks
get_d_chunks zero i bytes h = absurd (not-suc-le-zero h)
get_d_chunks (suc n) zero bytes h = refl
get_d_chunks (suc n) (suc i) bytes h =
    get_d_chunks n i (drop entry_size bytes) (le_of_suc-le-suc h)
    ∙ ap (take entry_size) (drop-drop (entry_size * i) entry_size bytes ∙ ap (λ (offset : ℕ). drop offset bytes) (sym (suc_entries i)))

pub length-entries_of : (image : List ℕ) → length (entries_of image) ≡ entries_per_page
length-entries_of image = length_chunks entries_per_page (drop items_offset image)

pub get_d_entries_of : (image : List ℕ) (i : ℕ) → i < entries_per_page → get_or (entries_of image) i [] ≡ entry_at image i
get_d_entries_of image i h =
    get_d_chunks entries_per_page i (drop items_offset image) h ∙ ap (take entry_size) (drop-drop (entry_size * i) items_offset image)

pub length-entry_at : (image : List ℕ) (i : ℕ) → length image ≡ sector_size → i < entries_per_page
    → length (entry_at image i) ≡ entry_size
length-entry_at image i h inside = simp (length-take, length-drop) (omega arith)

field_take : (offset size n : ℕ) (bytes : List ℕ) → offset + size ≤ n
    → field offset size (take n bytes) ≡ field offset size bytes
field_take zero size n bytes h = take-take size n bytes (omega arith)
field_take (suc offset) size zero bytes h = absurd (omega arith)
field_take (suc offset) size (suc n) [] h = refl
field_take (suc offset) size (suc n) (byte ∷ bytes) h = field_take offset size n bytes (omega arith)

-- a field of an entry, read from the image
pub field-entry_at : (image : List ℕ) (i offset size : ℕ) → offset + size ≤ entry_size
    → field offset size (entry_at image i) ≡ field (entry_address i + offset) size image
field-entry_at image i offset size h =
    field_take offset size entry_size (drop (entry_address i) image) h
    ∙ ap (take size) (drop-drop offset (entry_address i) image)

-- ---- bytes laid over others, as `bytes::put` leaves them

abbrev pub over : List ℕ → ℕ → List ℕ → List ℕ
over out offset bytes = take offset out ++ (bytes ++ drop (offset + length bytes) out)

-- ---- checks

-- a list of checks accepts where its refusal is Done, and only there
pub accepted_refusal : (checks : List Check) → accepted checks ≡ is_ok (refusal checks)
accepted_refusal [] = refl
accepted_refusal ((true, refused) ∷ checks) = refl
accepted_refusal ((false, refused) ∷ checks) = accepted_refusal checks

-- checks and then others
pub accepted_append : (xs ys : List Check) → accepted (xs ++ ys) ≡ (accepted xs && accepted ys)
accepted_append [] ys = refl
accepted_append ((true, answer) ∷ xs) ys = refl
accepted_append ((false, answer) ∷ xs) ys = accepted_append xs ys

-- those after are asked where those in front accept
pub refusal_append : (xs ys : List Check) → refusal (xs ++ ys) ≡ cond (accepted xs) (refusal ys) (refusal xs)
refusal_append [] ys = refl
refusal_append ((true, answer) ∷ xs) ys = refl
refusal_append ((false, answer) ∷ xs) ys = refusal_append xs ys

-- of an answer in hand that is done, and of one that is a refusal
pub accepted_done : (checks : List Check) {answer : Answer} → answer ≡ refusal checks → is_ok answer ≡ true → accepted checks ≡ true
accepted_done checks e done = accepted_refusal checks ∙ ap is_ok (sym e) ∙ done

pub accepted_refused : (checks : List Check) {answer : Answer} → answer ≡ refusal checks → is_ok answer ≡ false → accepted checks ≡ false
accepted_refused checks e refused = accepted_refusal checks ∙ ap is_ok (sym e) ∙ refused

-- a refusal in front is that of all
pub refusal_refused : (xs ys : List Check) {answer : Answer} → accepted xs ≡ false → answer ≡ refusal xs → answer ≡ refusal (xs ++ ys)
refusal_refused xs ys refused e = e ∙ sym (refusal_append xs ys ∙ rw refused)

-- past checks that accept, the refusal is that of the checks after
pub refusal_passed : (xs ys : List Check) {answer : Answer} → accepted xs ≡ true → answer ≡ refusal ys → answer ≡ refusal (xs ++ ys)
refusal_passed xs ys passed e = e ∙ sym (refusal_append xs ys ∙ rw passed)

pub accepted_head : (test : Bool) (answer : Refusal) (checks : List Check) → accepted ((test, answer) ∷ checks) ≡ true → test ≡ false
accepted_head true answer checks h = sym h
accepted_head false answer checks h = refl

pub accepted_tail : (test : Bool) (answer : Refusal) (checks : List Check) → accepted ((test, answer) ∷ checks) ≡ true → accepted checks ≡ true
accepted_tail true answer checks h = absurd (false≢true h)
accepted_tail false answer checks h = h

pub refusal_accepted : (checks : List Check) → accepted checks ≡ true → refusal checks ≡ Done
refusal_accepted [] h = refl
refusal_accepted ((true, answer) ∷ checks) h = absurd (false≢true h)
refusal_accepted ((false, answer) ∷ checks) h = refusal_accepted checks h

-- no check of an accepted list refuses
pub accepted_at : (checks : List Check) (n : ℕ) → accepted checks ≡ true → (get_or checks n (false, Stopped)).0 ≡ false
accepted_at [] n h = refl
accepted_at ((true, answer) ∷ checks) n h = absurd (false≢true h)
accepted_at ((false, answer) ∷ checks) zero h = refl
accepted_at ((false, answer) ∷ checks) (suc n) h = accepted_at checks n h

-- ---- an answer with a value

pub answer_given : {A : Type 0} (answer : Answer) (value : A) → answer_in (value_where_done answer value) ≡ answer
answer_given (Ok done) value = refl
answer_given (Err refused) value = refl

-- ---- states

pub bits_le : (s : EntryMapState) → bits_of s ≤ 3
bits_le Empty = omega arith
bits_le Written = omega arith
bits_le Erased = omega arith
bits_le Illegal = omega arith

-- ---- all states

pub length_unpack : (map : List ℕ) → length (unpack map) ≡ 4 * length map
length_unpack [] = refl
length_unpack (byte ∷ bytes) = let rest = length_unpack bytes in omega arith

-- a byte's entries are passed
state_at-cons : (byte : ℕ) (bytes : List ℕ) (i : ℕ) → state_at (byte ∷ bytes) (suc (suc (suc (suc i)))) ≡ state_at bytes i
state_at-cons byte bytes i =
    let quotient : suc (suc (suc (suc i))) / 4 ≡ suc (i / 4) = omega arith in
    let rest : suc (suc (suc (suc i))) % 4 ≡ i % 4 = omega arith in
    rw (quotient, rest)

pub get_d_unpack : (map : List ℕ) (i : ℕ) → i < 4 * length map → get_or (unpack map) i Empty ≡ state_at map i
get_d_unpack [] i h = absurd (omega arith)
get_d_unpack (byte ∷ bytes) zero h = rw (div-one byte)
get_d_unpack (byte ∷ bytes) (suc zero) h = refl
get_d_unpack (byte ∷ bytes) (suc (suc zero)) h = refl
get_d_unpack (byte ∷ bytes) (suc (suc (suc zero))) h = refl
get_d_unpack (byte ∷ bytes) (suc (suc (suc (suc i)))) h =
    get_d_unpack bytes i (omega arith) ∙ sym (state_at-cons byte bytes i)

pub length-states_of : (map : List ℕ) → length map ≡ 32 → length (states_of map) ≡ 126
length-states_of map h = length-take 126 (unpack map) ∙ omega (arith, length_unpack map)

pub get_d_states_of : (map : List ℕ) (i : ℕ) → length map ≡ 32 → i < 126 → get_or (states_of map) i Empty ≡ state_at map i
get_d_states_of map i l h = get_or-take 126 (unpack map) i Empty h ∙ get_d_unpack map i (omega arith)

-- ---- statistics

-- each entry is in one of the four states
pub count_in_sum : (states : List EntryMapState)
    → count_in Empty states + count_in Written states + count_in Erased states + count_in Illegal states ≡ length states
unfolding count_in
count_in_sum [] = refl
count_in_sum (Empty ∷ states) = let rest = count_in_sum states in omega arith
count_in_sum (Written ∷ states) = let rest = count_in_sum states in omega arith
count_in_sum (Erased ∷ states) = let rest = count_in_sum states in omega arith
count_in_sum (Illegal ∷ states) = let rest = count_in_sum states in omega arith

-- the four counts add up to 126
pub statistics_sum : (map : List ℕ) → length map ≡ 32
    → (statistics map).empty + (statistics map).written + (statistics map).erased + (statistics map).illegal ≡ 126
unfolding statistics
statistics_sum map h = count_in_sum (states_of map) ∙ length-states_of map h

-- ---- setting a range

pub length-mark_range : (s : EntryMapState) (i n : ℕ) (map : List ℕ) → length (mark_range s i n map) ≡ length map
unfolding mark_range
length-mark_range s i zero map = refl
length-mark_range s i (suc n) map = length-mark_range s (suc i) n (mark s i map) ∙ simp length-set

-- ---- the bytes of a new item

-- a whole key and whole data fill the entry
pub length-item_bytes : (namespace type span chunk : ℕ) (key bytes : List ℕ) → length key ≡ 16 → length bytes ≡ 8
    → length (item_bytes namespace type span chunk key bytes) ≡ 32
unfolding item_bytes
length-item_bytes namespace type span chunk key bytes k b = omega (arith, length-append key bytes)

pub length-sized_data : (payload : List ℕ) → length (sized_data payload) ≡ 8
unfolding sized_data
length-sized_data payload = refl
