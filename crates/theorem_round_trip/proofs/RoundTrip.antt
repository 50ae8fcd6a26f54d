-- A record and its 675 bytes give each other back, and a byte that is no state makes no record that is fit (specs/RoundTrip).
use mathlib.Core.Path.{◌≡◌, refl, sym, ap, ap₂, ◌∙◌}
use mathlib.Core.Bool.{Bool, true, cond}
use mathlib.Core.List.{List, [], ◌∷◌, ◌++◌}
use Prim.Native.Nat.{ℕ, zero, suc, ◌+◌, ◌*◌, ◌/◌, ◌%◌, ◌^◌, ◌<◌, ◌≤◌}
use native.Mathlib.Omega.{arith}
use lib.ListN.{length, take, drop, get_or, length-drop, take-append-drop}
use lib.Seq.{take_at, drop-append-add, get_or-append-add, drop-cons, drop-drop, length-take-le}
use borrow.Author.Tests.{leb-true, lt-leb}
use Rattle.flash.proofs.Laws.{Bytes, bytes_nil, bytes_cons, bytes_of_get_d, bytes_take, bytes_drop}
use Rattle.page.specs.declared.Listed.{Listed}
use Rattle.page.specs.Record.{Page, no_item, fit_to_use}
use Rattle.sector.specs.declared.PageState.{PageState}
use Rattle.sector.specs.declared.PageState.TheVariants.{Uninitialized, Active, Full, Freeing, Corrupt, Invalid}
use Rattle.sector.specs.Layout.{number, little_endian, field}
use Rattle.sector.proofs.Laws.{number-little_endian}
use Rattle.boundary_encoding.specs.Encoding.{state_byte, state_of_byte, is_state, places_bytes, places_of, count_bytes, record_bytes, used_of, record_of}
use Rattle.theorem_round_trip.specs.RoundTrip.{RecordComesBack, BytesComeBack, NoStateIsUnfit}

-- ---- states

state_byte_lem : (s : PageState) → state_of_byte (state_byte s) ≡ s
state_byte_lem Uninitialized = refl
state_byte_lem Active = refl
state_byte_lem Full = refl
state_byte_lem Freeing = refl
state_byte_lem Corrupt = refl
state_byte_lem Invalid = refl

is_state_lem : (s : PageState) → is_state (state_byte s) ≡ true
is_state_lem Uninitialized = refl
is_state_lem Active = refl
is_state_lem Full = refl
is_state_lem Freeing = refl
is_state_lem Corrupt = refl
is_state_lem Invalid = refl

byte_state : (byte : ℕ) → byte ≤ 5 → state_byte (state_of_byte byte) ≡ byte
byte_state zero h = refl
byte_state (suc zero) h = refl
byte_state (suc (suc zero)) h = refl
byte_state (suc (suc (suc zero))) h = refl
byte_state (suc (suc (suc (suc zero)))) h = refl
byte_state (suc (suc (suc (suc (suc zero))))) h = refl
byte_state (suc (suc (suc (suc (suc (suc n)))))) h = absurd (omega arith)

-- 255 entries used are more than a page has
pub no_state_is_unfit : NoStateIsUnfit
unfolding record_of fit_to_use
no_state_is_unfit bytes h =
    let used : used_of bytes ≡ 255 = ap (λ (b : Bool). cond b (get_or bytes 42 0) 255) h in
    let over : 126 < used_of bytes + get_or bytes 43 0 = omega (arith, used) in
    rw (lt-leb (used_of bytes + get_or bytes 43 0) 126 over)

-- ---- words

byte_rest : (byte rest : ℕ) → byte < 256 → ((byte + 256 * rest) % 256 ≡ byte) × ((byte + 256 * rest) / 256 ≡ rest)
byte_rest byte rest h = (omega arith, omega arith)

-- bytes come back from the number that they hold
little_endian-number : {bytes : List ℕ} → Bytes bytes → little_endian (length bytes) (number bytes) ≡ bytes
little_endian-number bytes_nil = refl
little_endian-number (bytes_cons {byte} {bytes} h small) =
    let parts = byte_rest byte (number bytes) h in
    ap₂ (λ (x : ℕ) (xs : List ℕ). x ∷ xs) parts.0 (ap (little_endian (length bytes)) parts.1 ∙ little_endian-number small)

-- the four bytes at the front of others
word_back : {bytes : List ℕ} → Bytes bytes → 4 ≤ length bytes → little_endian 4 (number (take 4 bytes)) ≡ take 4 bytes
word_back {bytes} small h =
    ap (λ (n : ℕ). little_endian n (number (take 4 bytes))) (sym (length-take-le 4 bytes h)) ∙ little_endian-number (bytes_take 4 small)

-- ---- places

places_of_bytes : (places : List Listed) → ((i : ℕ) → (get_or places i no_item).hash < 2 ^ 32) → places_of (length places) (places_bytes places) ≡ places
unfolding places_of places_bytes
places_of_bytes [] h = refl
places_of_bytes (place ∷ places) h =
    ap₂ (λ (hash : ℕ) (rest : List Listed). record { hash = hash; index = place.index } ∷ rest)
    (number-little_endian 4 place.hash (h 0)) (places_of_bytes places (λ i. h (suc i)))

places_bytes_of : (n : ℕ) (bytes : List ℕ) → Bytes bytes → length bytes ≡ 5 * n → places_bytes (places_of n bytes) ≡ bytes
unfolding places_of places_bytes
places_bytes_of zero [] small h = refl
places_bytes_of zero (byte ∷ bytes) small h = absurd (omega arith)
places_bytes_of (suc n) bytes small h =
    let more : 4 < length bytes = omega (arith, h) in
    let fewer : length (drop 5 bytes) ≡ 5 * n = length-drop 5 bytes ∙ omega (arith, h) in
    ap₂ (λ (word rest : List ℕ). word ++ (get_or bytes 4 0 ∷ rest)) (word_back small (omega (arith, h))) (places_bytes_of n (drop 5 bytes) (bytes_drop 5 small) fewer)
    ∙ ap (λ (rest : List ℕ). take 4 bytes ++ rest) (sym (drop-cons bytes 4 0 more))
    ∙ take-append-drop 4 bytes

-- ---- records

abbrev thin : PageState → ℕ → ℕ → ℕ → List ℕ → ℕ → ℕ → ℕ → List Listed → Page
thin state sequence version crc map used erased len list =
    record {
      state = state;
      sequence = sequence;
      version = version;
      crc = crc;
      map = map;
      used = used;
      erased = erased;
      len = len;
      list = list;
    }

-- equal fields make equal records
same_fields : {s s' : PageState} {q q' c c' u u' e e' l l' : ℕ} {m m' : List ℕ} {p p' : List Listed} (v : ℕ)
    → s ≡ s' → q ≡ q' → c ≡ c' → m ≡ m' → u ≡ u' → e ≡ e' → l ≡ l' → p ≡ p'
    → thin s q v c m u e l p ≡ thin s' q' v c' m' u' e' l' p'
same_fields v hs hq hc hm hu he hl hp = rw (hs, hq, hc, hm, hu, he, hl, hp)

pub record_comes_back : RecordComesBack
unfolding record_bytes record_of
record_comes_back page holds =
    let map = page.map in
    let rest = count_bytes page ++ places_bytes page.list in
    let at : (k : ℕ) → get_or (map ++ rest) (32 + k) 0 ≡ get_or rest k 0 =
    λ k. ap (λ (n : ℕ). get_or (map ++ rest) (n + k) 0) (sym holds.map) ∙ get_or-append-add map rest k 0 in
    let places : drop 35 (map ++ rest) ≡ places_bytes page.list =
    ap (λ (n : ℕ). drop (n + 3) (map ++ rest)) (sym holds.map) ∙ drop-append-add map rest 3 in
    same_fields page.version
    (state_byte_lem page.state)
    (number-little_endian 4 page.sequence holds.sequence)
    (number-little_endian 4 page.crc holds.crc)
    (take_at map rest 32 holds.map)
    (ap (λ (b : Bool). cond b (get_or (map ++ rest) 32 0) 255) (is_state_lem page.state) ∙ at 0)
    (at 1)
    (at 2)
    (ap (places_of 126) places
    ∙ ap (λ (n : ℕ). places_of n (places_bytes page.list)) (sym holds.list)
    ∙ places_of_bytes page.list holds.hashes)

-- a word and the bytes after it
word_laid : (bytes : List ℕ) (i : ℕ) → Bytes bytes → i + 4 ≤ length bytes
    → little_endian 4 (number (field i 4 bytes)) ++ drop (i + 4) bytes ≡ drop i bytes
word_laid bytes i small h =
    let long : 4 ≤ length (drop i bytes) = rw (length-drop i bytes) (omega (arith, h)) in
    ap₂ (λ (xs ys : List ℕ). xs ++ ys) (word_back (bytes_drop i small) long) (sym (drop-drop 4 i bytes)) ∙ take-append-drop 4 (drop i bytes)

pub bytes_come_back : BytesComeBack
unfolding record_bytes record_of
bytes_come_back bytes whole small state =
    let all : Bytes bytes = bytes_of_get_d bytes (λ i h. small i) in
    let places = places_bytes_of 126 (drop 45 bytes) (bytes_drop 45 all) (length-drop 45 bytes ∙ omega (arith, whole)) in
    let at : (i : ℕ) → i < 675 → get_or bytes i 0 ∷ drop (suc i) bytes ≡ drop i bytes = λ i h. sym (drop-cons bytes i 0 (omega (arith, whole, h))) in
    let used : used_of bytes ≡ get_or bytes 42 0 = ap (λ (b : Bool). cond b (get_or bytes 42 0) 255) state in
    let counts : used_of bytes ∷ get_or bytes 43 0 ∷ get_or bytes 44 0 ∷ places_bytes (places_of 126 (drop 45 bytes)) ≡ drop 42 bytes =
    ap₂ (λ (u : ℕ) (rest : List ℕ). u ∷ get_or bytes 43 0 ∷ get_or bytes 44 0 ∷ rest) used places
    ∙ ap (λ (rest : List ℕ). get_or bytes 42 0 ∷ get_or bytes 43 0 ∷ rest) (at 44 (omega arith))
    ∙ ap (λ (rest : List ℕ). get_or bytes 42 0 ∷ rest) (at 43 (omega arith))
    ∙ at 42 (omega arith) in
    let map : field 10 32 bytes ++ (used_of bytes ∷ get_or bytes 43 0 ∷ get_or bytes 44 0 ∷ places_bytes (places_of 126 (drop 45 bytes))) ≡ drop 10 bytes =
    ap (λ (rest : List ℕ). field 10 32 bytes ++ rest) (counts ∙ sym (drop-drop 32 10 bytes)) ∙ take-append-drop 32 (drop 10 bytes) in
    ap₂ (λ (s : ℕ) (rest : List ℕ). s ∷ rest) (byte_state (get_or bytes 0 0) (leb-true (get_or bytes 0 0) 5 state))
    (ap (λ (rest : List ℕ). little_endian 4 (number (field 1 4 bytes)) ++ (get_or bytes 5 0 ∷ (little_endian 4 (number (field 6 4 bytes)) ++ rest))) map
    ∙ ap (λ (rest : List ℕ). little_endian 4 (number (field 1 4 bytes)) ++ (get_or bytes 5 0 ∷ rest)) (word_laid bytes 6 all (omega (arith, whole)))
    ∙ ap (λ (rest : List ℕ). little_endian 4 (number (field 1 4 bytes)) ++ rest) (at 5 (omega arith))
    ∙ word_laid bytes 1 all (omega (arith, whole)))
    ∙ at 0 (omega arith)
