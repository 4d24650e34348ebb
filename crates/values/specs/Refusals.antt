use Rattle.std.specs.Prelude.{ℕ, Ok, Err, Result}
use Rattle.values.specs.declared.refusal.Refusal.{Refusal}
use Rattle.values.specs.declared.refusal.Refusal.TheVariants.{UnsupportedSize, SheetTooShort, UnsuitableCapacity, ProviderNotEmpty, NoSuchSeat, NoSuchProvider, SeatStopped, SeatBusy, NothingToPost, LineDone, LineNotFree, ProviderLost, LineNotSent, NoAnswer, StoreFull, KeySheetTooShort, SecretTooLong, MinutesReversed, UnfitBytes}

-- the number of each refusal
abbrev pub refusal_number : Refusal → ℕ
refusal_number UnsupportedSize = 1
refusal_number SheetTooShort = 2
refusal_number UnsuitableCapacity = 3
refusal_number ProviderNotEmpty = 4
refusal_number NoSuchSeat = 5
refusal_number NoSuchProvider = 6
refusal_number SeatStopped = 7
refusal_number SeatBusy = 8
refusal_number NothingToPost = 9
refusal_number LineDone = 10
refusal_number LineNotFree = 11
refusal_number ProviderLost = 12
refusal_number LineNotSent = 13
refusal_number NoAnswer = 14
refusal_number StoreFull = 15
refusal_number KeySheetTooShort = 16
refusal_number SecretTooLong = 17
refusal_number MinutesReversed = 18
refusal_number UnfitBytes = 19

-- What an answer says: the meaning of what was answered, or the number of the refusal.
abbrev pub outcome : {T M : Type 0} → (T → M) → Result T Refusal → Result M ℕ
outcome means (Ok x) = Ok (means x)
outcome means (Err e) = Err (refusal_number e)

-- the same, where the answer means itself
abbrev pub numbered : {T : Type 0} → Result T Refusal → Result T ℕ
numbered r = outcome (λ x. x) r
