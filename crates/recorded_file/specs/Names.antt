-- What the numbers in a frame name (compare/RECORDED.md, 'How it is read'): its kind, and a buffer.
--
-- Not here: the calls, which are the crate `recorded_calls`.
use Rattle.std.specs.Prelude.{◌≡◌, refl, ℕ, zero, suc, ◌≤◌, [], ◌∷◌, Result, Ok, Err, MatchResult, get_or}
use Rattle.recorded_file.specs.declared.error.ReplayError.{ReplayError}
use Rattle.recorded_file.specs.declared.error.ReplayError.TheVariants.{OutOfBuffer}
use Rattle.recorded_file.specs.declared.kind.FrameKind.{FrameKind}
use Rattle.recorded_file.specs.declared.kind.FrameKind.TheVariants.{End, Put, Fill, CopyData, CopySource, Call, Compare}
use Rattle.recorded_file.specs.declared.kind.UnknownKind.{UnknownKind}
use Rattle.recorded_file.specs.declared.buffers.Buffer.{Buffer}
use Rattle.recorded_file.specs.declared.buffers.Buffer.TheVariants as Buffers

-- the number itself where no kind has it
abbrev pub kind_of : ℕ → Result FrameKind UnknownKind
kind_of number =
    get_or (Ok End ∷ Ok Put ∷ Ok Fill ∷ Ok CopyData ∷ Ok CopySource ∷ Ok Call ∷ Ok Compare ∷ []) number (Err (record { 0 = number }))

abbrev pub kind_number : Result FrameKind UnknownKind → ℕ
kind_number (Ok End) = 0
kind_number (Ok Put) = 1
kind_number (Ok Fill) = 2
kind_number (Ok CopyData) = 3
kind_number (Ok CopySource) = 4
kind_number (Ok Call) = 5
kind_number (Ok Compare) = 6
kind_number (Err unknown) = unknown.0

-- no number is lost
pub kind_number_of : (number : ℕ) → kind_number (kind_of number) ≡ number
kind_number_of zero = refl
kind_number_of (suc zero) = refl
kind_number_of (suc (suc zero)) = refl
kind_number_of (suc (suc (suc zero))) = refl
kind_number_of (suc (suc (suc (suc zero)))) = refl
kind_number_of (suc (suc (suc (suc (suc zero))))) = refl
kind_number_of (suc (suc (suc (suc (suc (suc zero)))))) = refl
kind_number_of (suc (suc (suc (suc (suc (suc (suc n))))))) = refl

abbrev pub buffer_number : Buffer → ℕ
buffer_number Buffers.Image = 0
buffer_number Buffers.Source = 1
buffer_number Buffers.Record = 2
buffer_number Buffers.Data = 3
buffer_number Buffers.Output = 4
buffer_number Buffers.Request = 5
buffer_number Buffers.Result = 6

-- the buffer that has this number, or a refusal where none has
abbrev pub NamesBuffer : ℕ → Result Buffer ReplayError → Type 0
NamesBuffer number r = MatchResult r (λ buffer. buffer_number buffer ≡ number) (λ error. (error ≡ OutOfBuffer) × (7 ≤ number))
