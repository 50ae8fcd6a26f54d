-- Laws of the buffers: bytes laid after others, lists made from the front, states, and the places of a list.
use mathlib.Core.Path.{◌≡◌, refl, sym, ap, ap₂, ◌∙◌}
use mathlib.Core.List.{List, [], ◌∷◌, ◌++◌, append-nil, append_assoc}
use Prim.Native.Nat.{ℕ, zero, suc, ◌+◌, ◌*◌, ◌<◌, ◌≤◌}
use native.Mathlib.Nat.{zero-add}
use native.Mathlib.Numerals.{add-one}
use native.Mathlib.Omega.{arith}
use lib.ListN.{length, take, drop, set, get_or, length-append, length-drop, drop_of_length-le, take-append-drop}
use lib.Seq.{take_at, drop-append-add, drop-drop, take-suc, take_all, take-suc-set, length-take-le}
use Rattle.page.specs.declared.Listed.{Listed}
use Rattle.page.specs.Record.{no_item}
use Rattle.sector.specs.declared.PageState.TheVariants.{Corrupt}
use Rattle.sector.proofs.Laws.{over}
use Rattle.boundary_encoding.specs.Encoding.{state_of_byte, place_bytes, places_bytes, place_of, places_of, place_size}

-- ---- bytes laid over others

-- as many bytes as there are take all their places
pub over_whole : (out bytes : List ℕ) → length bytes ≡ length out → over out 0 bytes ≡ bytes
over_whole out bytes h =
    let all : length out ≤ 0 + length bytes = omega (arith, h) in
    rw (drop_of_length-le out all, append-nil bytes)

-- bytes laid after those that are laid already
pub over_next : (base front bytes : List ℕ) (n : ℕ) {out : List ℕ} → length front ≡ n → out ≡ front ++ drop n base
    → over out n bytes ≡ (front ++ bytes) ++ drop (n + length bytes) base
over_next base front bytes n {out} e h =
    let rest = drop n base in
    let rest_of : drop (n + length bytes) (front ++ rest) ≡ drop (n + length bytes) base =
    ap (λ (k : ℕ). drop (k + length bytes) (front ++ rest)) (sym e) ∙ drop-append-add front rest (length bytes) ∙ drop-drop (length bytes) n base in
    rw (h, take_at front rest n e, rest_of, append_assoc front bytes (drop (n + length bytes) base))

-- the same, by what is known of the buffer before and after
pub over_after : (base front bytes : List ℕ) (n m : ℕ) {out after : List ℕ} → length front ≡ n → length bytes ≡ m → out ≡ front ++ drop n base
    → after ≡ over out n bytes → after ≡ (front ++ bytes) ++ drop (n + m) base
over_after base front bytes n m e g h p =
    p ∙ over_next base front bytes n e h ∙ ap (λ (k : ℕ). (front ++ bytes) ++ drop (n + k) base) g

-- bytes up to the buffer's end
pub over_last : (base front bytes : List ℕ) (n : ℕ) {out after : List ℕ} → length front ≡ n → length base ≤ n + length bytes → out ≡ front ++ drop n base
    → after ≡ over out n bytes → after ≡ front ++ bytes
over_last base front bytes n e g h p =
    p ∙ over_next base front bytes n e h ∙ ap (λ (rest : List ℕ). (front ++ bytes) ++ rest) (drop_of_length-le base g) ∙ append-nil (front ++ bytes)

-- four words laid one after the other, up to the buffer's end
pub words_laid : (base a b c d : List ℕ) {o₁ o₂ o₃ o₄ : List ℕ} → length base ≡ 57 → length a ≡ 4 → length b ≡ 4 → length c ≡ 4 → length d ≡ 4
    → o₁ ≡ over base 41 a → o₂ ≡ over o₁ 45 b → o₃ ≡ over o₂ 49 c → o₄ ≡ over o₃ 53 d → o₄ ≡ take 41 base ++ (a ++ (b ++ (c ++ d)))
words_laid base a b c d whole la lb lc ld p₁ p₂ p₃ p₄ =
    let front : length (take 41 base) ≡ 41 = length-take-le 41 base (omega (arith, whole)) in
    let one : length (take 41 base ++ a) ≡ 45 = length-append (take 41 base) a ∙ ap₂ (λ (m n : ℕ). m + n) front la in
    let two : length ((take 41 base ++ a) ++ b) ≡ 49 = length-append (take 41 base ++ a) b ∙ ap₂ (λ (m n : ℕ). m + n) one lb in
    let three : length (((take 41 base ++ a) ++ b) ++ c) ≡ 53 = length-append ((take 41 base ++ a) ++ b) c ∙ ap₂ (λ (m n : ℕ). m + n) two lc in
    let end : length base ≤ 53 + length d = omega (arith, whole, ld) in
    over_last base (((take 41 base ++ a) ++ b) ++ c) d 53 three end
    (over_after base ((take 41 base ++ a) ++ b) c 49 4 two lc
    (over_after base (take 41 base ++ a) b 45 4 one lb
    (over_after base (take 41 base) a 41 4 front la (sym (take-append-drop 41 base)) p₁) p₂) p₃) p₄
    ∙ rw (append_assoc ((take 41 base ++ a) ++ b) c d, append_assoc (take 41 base ++ a) b (c ++ d), append_assoc (take 41 base) a (b ++ (c ++ d)))

-- three parts laid one after the other from the start on
pub parts_laid : (base a b c : List ℕ) (k m n : ℕ) {o₁ o₂ o₃ : List ℕ} → length a ≡ k → length b ≡ m → length c ≡ n
    → o₁ ≡ over base 0 a → o₂ ≡ over o₁ k b → o₃ ≡ over o₂ (k + m) c → take (k + m + n) o₃ ≡ a ++ (b ++ c)
parts_laid base a b c k m n la lb lc p₁ p₂ p₃ =
    let two : length (a ++ b) ≡ k + m = length-append a b ∙ ap₂ (λ (i j : ℕ). i + j) la lb in
    let three : length ((a ++ b) ++ c) ≡ k + m + n = length-append (a ++ b) c ∙ ap₂ (λ (i j : ℕ). i + j) two lc in
    let first = over_after base [] a 0 k refl la refl p₁ ∙ ap (λ (i : ℕ). a ++ drop i base) (zero-add k) in
    let laid = over_after base (a ++ b) c (k + m) n two lc (over_after base a b k m la lb first p₂) p₃ in
    ap (take (k + m + n)) laid ∙ take_at ((a ++ b) ++ c) _ (k + m + n) three ∙ append_assoc a b c

-- ---- a list made from the front

module _ {A : Type 0} (list target : List A) (k : ℕ) where
  -- one more place as it has to be
  pub made_next : (d : A) {x : A} → k < length list → k < length target → take k list ≡ take k target → x ≡ get_or target k d
      → take (k + 1) (set list k x) ≡ take (k + 1) target
  made_next d {x} h g e p =
      ap (λ (n : ℕ). take n (set list k x)) (add-one k)
      ∙ take-suc-set list k x h
      ∙ ap₂ (λ (xs : List A) (y : A). xs ++ (y ∷ [])) e p
      ∙ sym (take-suc target k d g)
      ∙ ap (λ (n : ℕ). take n target) (sym (add-one k))

  -- and all of them
  pub made_whole : length list ≤ k → length target ≤ k → take k list ≡ take k target → list ≡ target
  made_whole h g e = sym (take_all k list h) ∙ e ∙ take_all k target g

-- ---- states

-- a byte over 5 is none
pub no_state : (byte : ℕ) → 6 ≤ byte → state_of_byte byte ≡ Corrupt
no_state zero h = absurd (omega arith)
no_state (suc zero) h = absurd (omega arith)
no_state (suc (suc zero)) h = absurd (omega arith)
no_state (suc (suc (suc zero))) h = absurd (omega arith)
no_state (suc (suc (suc (suc zero)))) h = absurd (omega arith)
no_state (suc (suc (suc (suc (suc zero))))) h = absurd (omega arith)
no_state (suc (suc (suc (suc (suc (suc n)))))) h = refl

-- ---- places

pub places_bytes-append : (xs ys : List Listed) → places_bytes (xs ++ ys) ≡ places_bytes xs ++ places_bytes ys
unfolding places_bytes
places_bytes-append [] ys = refl
places_bytes-append (place ∷ xs) ys =
    ap (λ (bytes : List ℕ). place_bytes place ++ bytes) (places_bytes-append xs ys) ∙ sym (append_assoc (place_bytes place) (places_bytes xs) (places_bytes ys))

pub places_bytes_next : (places : List Listed) (k : ℕ) → k < length places
    → places_bytes (take (suc k) places) ≡ places_bytes (take k places) ++ place_bytes (get_or places k no_item)
unfolding places_bytes
places_bytes_next places k h =
    ap places_bytes (take-suc places k no_item h) ∙ places_bytes-append (take k places) (get_or places k no_item ∷ [])

pub length-places_bytes : (places : List Listed) → length (places_bytes places) ≡ place_size * length places
unfolding places_bytes
length-places_bytes [] = refl
length-places_bytes (place ∷ places) =
    let rest = length-places_bytes places in
    omega (arith, rest, length-append (place_bytes place) (places_bytes places))

-- the bytes of the first k places, after the first 45 bytes of a buffer
abbrev pub places_front : List ℕ → List Listed → ℕ → List ℕ
places_front base places k = take 45 base ++ places_bytes (take k places)

module _ (base : List ℕ) (places : List Listed) (k : ℕ) (whole : length base ≡ 675) (all : length places ≡ 126) where
  pub length-places_front : k ≤ 126 → length (places_front base places k) ≡ 45 + 5 * k
  length-places_front h =
      let front = length-take-le 45 base (omega (arith, whole)) in
      let some = length-take-le k places (omega (arith, all)) in
      length-append (take 45 base) (places_bytes (take k places))
      ∙ ap₂ (λ (m n : ℕ). m + n) front (length-places_bytes (take k places) ∙ ap (λ (n : ℕ). 5 * n) some)

  -- none yet
  pub places_front_none : base ≡ places_front base places 0 ++ drop (45 + 5 * 0) base
  unfolding places_bytes
  places_front_none = sym (rw (append-nil (take 45 base)) (take-append-drop 45 base))

  -- one more
  pub places_front_next : {out five after : List ℕ} → k < 126 → out ≡ places_front base places k ++ drop (45 + 5 * k) base
      → five ≡ place_bytes (get_or places k no_item) → after ≡ over out (45 + 5 * k) five
      → after ≡ places_front base places (k + 1) ++ drop (45 + 5 * (k + 1)) base
  places_front_next {out} {five} {after} h e p q =
      let long : length five ≡ 5 = ap length p in
      let end : 45 + 5 * k + length five ≡ 45 + 5 * (k + 1) = omega (arith, long) in
      let front : places_front base places k ++ five ≡ places_front base places (k + 1) =
      append_assoc (take 45 base) (places_bytes (take k places)) five
      ∙ ap (λ (bytes : List ℕ). take 45 base ++ bytes)
      (ap (λ (bytes : List ℕ). places_bytes (take k places) ++ bytes) p
      ∙ sym (places_bytes_next places k (omega (arith, all)))
      ∙ ap (λ (n : ℕ). places_bytes (take n places)) (sym (add-one k))) in
      q ∙ over_next base (places_front base places k) five (45 + 5 * k) (length-places_front (omega arith)) e
      ∙ ap₂ (λ (xs : List ℕ) (n : ℕ). xs ++ drop n base) front end

  -- all of them
  pub places_front_all : {out : List ℕ} → k ≡ 126 → out ≡ places_front base places k ++ drop (45 + 5 * k) base
      → out ≡ take 45 base ++ places_bytes places
  places_front_all {out} h e =
      let end : length base ≤ 45 + 5 * k = omega (arith, whole, h) in
      let full : length places ≤ k = omega (arith, all, h) in
      e ∙ ap (λ (rest : List ℕ). places_front base places k ++ rest) (drop_of_length-le base end)
      ∙ append-nil (places_front base places k)
      ∙ ap (λ (some : List Listed). take 45 base ++ places_bytes some) (take_all k places full)

  pub length_laid : {out : List ℕ} → k ≤ 126 → out ≡ places_front base places k ++ drop (45 + 5 * k) base → length out ≡ 675
  length_laid {out} h e =
      let front = length-places_front h in
      let rest = length-drop (45 + 5 * k) base in
      let both = length-append (places_front base places k) (drop (45 + 5 * k) base) in
      ap length e ∙ omega (arith, both, front, rest, whole)

pub length-places_of : (n : ℕ) (bytes : List ℕ) → length (places_of n bytes) ≡ n
unfolding places_of
length-places_of zero bytes = refl
length-places_of (suc n) bytes = ap suc (length-places_of n (drop place_size bytes))

pub get_d_places_of : (n k : ℕ) (bytes : List ℕ) → k < n → get_or (places_of n bytes) k no_item ≡ place_of (drop (place_size * k) bytes)
unfolding places_of
get_d_places_of zero k bytes h = absurd (omega arith)
get_d_places_of (suc n) zero bytes h = refl
get_d_places_of (suc n) (suc k) bytes h =
    let shift : place_size + place_size * k ≡ place_size * suc k = omega arith in
    get_d_places_of n k (drop place_size bytes) (omega arith)
    ∙ ap place_of (drop-drop (place_size * k) place_size bytes ∙ ap (λ (m : ℕ). drop m bytes) shift)
