-- What is kept with a file besides its shape and its records.
use Rattle.std.specs.Prelude.{ℕ, ◌≡◌, ◌≢◌, ◌≤◌, Bool, ◌&&◌, ◌||◌, nat_eq, nat_lt, IsTrue, Option, Some, None, is_none, IfSome, unwrap_or}
use Rattle.rec_file.specs.declared.look.Look.{Look}
use Rattle.rec_file.specs.declared.shapes.Format.TheVariants.{Variable}
use Rattle.rec_file.specs.declared.shapes.Shape.{Shape}
use Rattle.rec_file.specs.Limits.{max_byte, max_word, max_datatype, max_rat}

-- nothing is kept of the Attributes that made the file
abbrev pub plain_look : Look
plain_look = record { datatype = None; rfm = None; rat = None; bls = None; bks = None; fsz = None; bsz = None }

-- nothing is kept
abbrev pub is_plain : Look → Bool
is_plain look =
    is_none look.datatype && (is_none look.rfm && (is_none look.rat && (is_none look.bls && (is_none look.bks
    && (is_none look.fsz && is_none look.bsz)))))

-- a field that is missing, or at most this number
abbrev pub IsFieldWithin : ℕ → Option ℕ → Type 0
IsFieldWithin most field = IfSome field (λ n. n ≤ most)

-- the code of RFM for records with a fixed part in front
abbrev pub fronted : ℕ
fronted = 3

-- the codes of RFM that a shape doesn't say by its format: 0, and 3 to 6
abbrev pub IsOtherFormat : ℕ → Type 0
IsOtherFormat rfm = (rfm ≤ 6) × (rfm ≢ 1) × (rfm ≢ 2)

-- FSZ is kept of records with a fixed part in front, and of no others
abbrev pub IsFront : (rfm fsz : Option ℕ) → Type 0
IsFront rfm None = rfm ≢ Some fronted
IsFront rfm (Some fsz) = (rfm ≡ Some fronted) × (1 ≤ fsz) × (fsz ≤ max_byte)

-- how many bytes of each record are its fixed part in front
abbrev pub front_size : Look → ℕ
front_size look = unwrap_or look.fsz 0

-- a limit of the records, where there is one, is longer than their fixed part in front
abbrev pub exceeds_front : (mrs front : ℕ) → Bool
exceeds_front mrs front = nat_eq mrs 0 || nat_lt front mrs

-- what is kept with a file of this shape: each field is within that of the message; RFM is kept of variable records
-- alone, where the shape doesn't say it; and a limit of the records is longer than their fixed part in front
pub record LookFits (shape : Shape) (look : Look) : Type 0 where
  pub datatype : IsFieldWithin max_datatype look.datatype
  pub rat : IsFieldWithin max_rat look.rat
  pub bls : IsFieldWithin max_word look.bls
  pub bks : IsFieldWithin max_byte look.bks
  pub bsz : IsFieldWithin max_byte look.bsz
  pub format : IfSome look.rfm (λ rfm. (shape.format ≡ Variable) × IsOtherFormat rfm)
  pub front : IsFront look.rfm look.fsz
  pub limit : IsTrue (exceeds_front shape.mrs (front_size look))

-- a file of this shape may have this look
unfoldable pub IsLook : Shape → Look → Type 0
IsLook shape look = LookFits shape look
