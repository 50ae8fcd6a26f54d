-- What a call answers (01, 'Numbers that come back'): its number, and the byte that it carries.
--
-- In order: the answers, by their numbers and the byte carried, which tell every answer apart; an answer with a value; checks in 01's order.
use Rattle.std.specs.Prelude.{◌≡◌, refl, Bool, true, false, cond, List, [], ◌∷◌, ℕ, get_or, Result, Ok, Err}
use Rattle.sector.specs.declared.Refusal.{Refusal}
use Rattle.sector.specs.declared.Refusal.TheVariants.{BadImage, BadRecord, WrongState, BadRequest, ValueTooLong, PageFull, KeyNotFound, ItemTypeMismatch, CorruptedData, NotWritten, Stopped}

-- ---- the answers

-- done, or a refusal
abbrev pub Answer : Type 0
Answer = Result Unit Refusal

-- no check refuses, and the call was not told to stop before its end
abbrev pub Done : Answer
Done = Ok tt

abbrev pub refusal_number : Refusal → ℕ
refusal_number BadImage = 1
refusal_number BadRecord = 2
refusal_number WrongState = 3
refusal_number BadRequest = 4
refusal_number ValueTooLong = 5
refusal_number PageFull = 6
refusal_number KeyNotFound = 7
refusal_number (ItemTypeMismatch byte) = 8
refusal_number CorruptedData = 9
refusal_number NotWritten = 10
refusal_number Stopped = 11

abbrev pub number_of : Answer → ℕ
number_of (Ok done) = 0
number_of (Err refused) = refusal_number refused

-- the type byte, of 8; 0 of any other
abbrev pub refusal_byte : Refusal → ℕ
refusal_byte BadImage = 0
refusal_byte BadRecord = 0
refusal_byte WrongState = 0
refusal_byte BadRequest = 0
refusal_byte ValueTooLong = 0
refusal_byte PageFull = 0
refusal_byte KeyNotFound = 0
refusal_byte (ItemTypeMismatch byte) = byte
refusal_byte CorruptedData = 0
refusal_byte NotWritten = 0
refusal_byte Stopped = 0

abbrev pub carried_byte : Answer → ℕ
carried_byte (Ok done) = 0
carried_byte (Err refused) = refusal_byte refused

-- the answer that a number and a byte stand for
abbrev pub answer_of : ℕ → ℕ → Answer
answer_of n byte =
    get_or
    (Done ∷ Err BadImage ∷ Err BadRecord ∷ Err WrongState ∷ Err BadRequest ∷ Err ValueTooLong ∷ Err PageFull ∷ Err KeyNotFound ∷ Err (ItemTypeMismatch byte) ∷ Err CorruptedData ∷ Err NotWritten ∷ [])
    n (Err Stopped)

-- number and byte tell every answer apart
pub answer_number : (a : Answer) → answer_of (number_of a) (carried_byte a) ≡ a
answer_number (Ok done) = refl
answer_number (Err BadImage) = refl
answer_number (Err BadRecord) = refl
answer_number (Err WrongState) = refl
answer_number (Err BadRequest) = refl
answer_number (Err ValueTooLong) = refl
answer_number (Err PageFull) = refl
answer_number (Err KeyNotFound) = refl
answer_number (Err (ItemTypeMismatch byte)) = refl
answer_number (Err CorruptedData) = refl
answer_number (Err NotWritten) = refl
answer_number (Err Stopped) = refl

-- a value where the answer is Done, else the refusal alone
abbrev pub value_where_done : {A : Type 0} → Answer → A → Result A Refusal
value_where_done (Ok done) value = Ok value
value_where_done (Err refused) value = Err refused

-- its answer alone
abbrev pub answer_in : {A : Type 0} → Result A Refusal → Answer
answer_in (Ok value) = Done
answer_in (Err refused) = Err refused

-- its value, or another where there is none
abbrev pub value_in : {A : Type 0} → A → Result A Refusal → A
value_in none (Ok value) = value
value_in none (Err refused) = none

-- ---- checks

-- whether a check refuses, and what it then answers
abbrev pub Check : Type 0
Check = Bool × Refusal

-- the first check that refuses, in order; Done where none does
abbrev pub refusal : List Check → Answer
refusal [] = Done
refusal (check ∷ checks) = cond check.0 (Err check.1) (refusal checks)

-- no check refuses
abbrev pub accepted : List Check → Bool
accepted [] = true
accepted (check ∷ checks) = cond check.0 false (accepted checks)
