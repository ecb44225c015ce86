-- The F-chain (source 001, section 5), from the stack and its texts alone. Frame k was entered by the statement that frame k - 1 has passed last. Where
-- that is a CL through a procedure formal, F(k) is the frame in whose text the procedure stood under its own name when it was first handed over; from
-- there it came to that formal as it was. Every other frame has none. What a name means in a frame's text is what the static chain says.
use Rattle.std.specs.Prelude.{ℕ, zero, suc, pred, Bool, true, false, List, leb, length}
use Rattle.std.proofs.Math.Option.{Option, none, some}
use Rattle.language.specs.Text.{Action, CL, GO, IF, KN, AR, AD, RM, QY, Stmt, BK, DO}
use Rattle.frames.specs.Frame.{Frame, NamePlace, numbered, seek_from}
use Rattle.coordinates.specs.Made.{passed}

-- A call: the name called and the arguments' names.
pub record Call : Type 0 where
  pub called : ℕ
  pub arguments : List ℕ

unfoldable pub call_in : Action → Option Call
call_in (CL p xs) = some (record { called = p; arguments = xs })
call_in (GO l) = none
call_in (IF v l) = none
call_in (KN t z) = none
call_in (AR t o a b) = none
call_in (AD g m) = none
call_in (RM g m) = none
call_in (QY t g m) = none

unfoldable pub call_of : Stmt → Option Call
call_of (BK b) = none
call_of (DO at a) = call_in a

-- the call by which frame k was entered; none for the program and for a block
unfoldable pub call_for : List Frame → ℕ → Option Call
call_for fs k =
    elim (numbered fs (pred k)) [ none ↦ none | some g ↦ elim (passed g) [ none ↦ none | some x ↦ call_of x ] ]

-- A formal: its frame, and its position from 1.
pub record FormalAt : Type 0 where
  pub frame : ℕ
  pub position : ℕ

-- the formal that a place is, if it is one
unfoldable pub formal_at : List Frame → NamePlace → Option FormalAt
formal_at fs p =
    elim (numbered fs p.number) [
      | none ↦ none
      | some f ↦ elim (leb p.position (length f.formals)) [
        | true ↦ some (record { frame = p.number; position = p.position })
        | false ↦ none
      ]
    ]

-- the formal that a name is in the text of frame k, found along the static chain; none for a declared name
unfoldable pub formal_of : List Frame → ℕ → ℕ → Option FormalAt
formal_of fs k n = elim (seek_from k fs k n 0) [ none ↦ none | some p ↦ formal_at fs p ]

-- the name that stood for a formal in the call by which its frame was entered
unfoldable pub argument_for : List Frame → FormalAt → Option ℕ
argument_for fs x = elim (call_for fs x.frame) [ none ↦ none | some c ↦ numbered c.arguments x.position ]

-- the frame whose CL first passed what a formal stands for, which F asks of formals of kind procedure alone: the caller where its argument is a declared name, else the first passer of the formal
-- that the argument is, which belongs to a frame further out
unfoldable pub passer_within : ℕ → List Frame → FormalAt → ℕ
passer_within zero fs x = 0
passer_within (suc m) fs x =
    elim (argument_for fs x) [
      | none ↦ 0
      | some n ↦ elim (formal_of fs (pred x.frame) n) [ none ↦ pred x.frame | some y ↦ passer_within m fs y ]
    ]

unfoldable pub passer : List Frame → FormalAt → ℕ
passer fs x = passer_within x.frame fs x

-- the formal through which frame k was entered
unfoldable pub through : List Frame → ℕ → Option FormalAt
through fs k = elim (call_for fs k) [ none ↦ none | some c ↦ formal_of fs (pred k) c.called ]

-- F(k)
unfoldable pub passer_of : List Frame → ℕ → Option ℕ
passer_of fs k = elim (through fs k) [ none ↦ none | some x ↦ some (passer fs x) ]
