-- A block after its BK, and a procedure's body after its formals. Assumes nothing.
use Rattle.language.specs.Faults.{fault}
use Rattle.std.specs.Prelude.{Ok, Err}
use mathlib.Core.Path.{◌≡◌, refl, ◌∙◌, ap}
use mathlib.Core.Bool.{Bool, true, false}
use mathlib.Core.List.{List, []}
use Prim.Native.Nat.{ℕ, zero, suc, ◌+◌, ◌<◌, ◌≤◌}
use lib.Dec.{leb}
use lib.ListN.{length, get_or}
use native.Mathlib.Omega.{arith}
use borrow.Author.Tests.{le-leb, lt-leb, leb-true, leb-false}
use Rattle.language.specs.Text.{Formal, Block, Decls, block, formal_names}
use Rattle.language.specs.Structure.{Reading as Outcome, read, refuse, Reader, ◌>>=◌, ◌>>◌, give, require, Record, block_marks, take-record, formals, BlockReader, declarations, statements, block_with}
use Rattle.language.specs.declared.Refusal.{Refusal}
use Rattle.language.specs.declared.Refusal.TheVariants.{NestingDepth, TooManyNames}
use Rattle.laws.specs.Readers.{bind-read, bind-refuse, passes, fails}
use Rattle.check_marks.specs.declared.Mark.{Mark}
use Rattle.check_marks.specs.declared.Mark.TheVariants.{BK}
use Rattle.check_marks.specs.declared.Place.TheVariants.{Block as ABlock}
use Rattle.check_records.specs.declared.Reading.{Reading}
use Rattle.check_records.specs.declared.Reading.TheVariants.{Taken}
use Rattle.check_marks.specs.Marks.{only_mark}
use Rattle.check_records.specs.Taking.{unread, record_at, forget}
use Rattle.check_records.proofs.Steps.{Step, stepped, stopped}
use Rattle.check_bounds.specs.Judging.{opened_of}
use Rattle.check_bounds.proofs.BlockTests.{opened-fits, opened-many}
use Rattle.check_blocks.specs.Progress.{body_of}
use Rattle.check_blocks.proofs.Lands.{Landed, landed, turned-away, tracks-block, tracks-declarations}
use Rattle.check_blocks.proofs.Forget.{forget-give}

block-deep : (at d s : ℕ) (fs : List ℕ) (o : ℕ) (ws : List ℕ) → forget (block_with zero at d s fs o ws) ≡ Err (fault NestingDepth at)
unfolding block_with forget
block-deep at d s fs o ws = refl

module _ (k at d s : ℕ) (fs : List ℕ) (bs : List ℕ) (next : ℕ) where
  stmts-of : Decls → Reader Block
  stmts-of ds = statements (block_with k) s >>= λ ss. give (block at ds ss)

  decls-of : Reader Block
  decls-of = declarations (block_with k) s d fs >>= stmts-of

  opened : block_with (suc k) at d s fs next (unread bs next) ≡ (require (leb (length fs + d) 32) TooManyNames at >> decls-of) next (unread bs next)
  unfolding block_with decls-of stmts-of
  opened = refl

  block-many : 32 < length fs + d → forget (block_with (suc k) at d s fs next (unread bs next)) ≡ Err (fault TooManyNames at)
  unfolding forget
  block-many h = ap forget (opened ∙ fails _ TooManyNames at decls-of next (unread bs next) (lt-leb (length fs + d) 32 h))

  few : length fs + d ≤ 32 → block_with (suc k) at d s fs next (unread bs next) ≡ decls-of next (unread bs next)
  few h = opened ∙ passes _ TooManyNames at decls-of next (unread bs next) (le-leb (length fs + d) 32 h)

  abbrev outcome : Outcome Decls
  outcome = declarations (block_with k) s d fs next (unread bs next)

  pub block-stops : {c : Refusal} {o : ℕ} → length fs + d ≤ 32 → forget outcome ≡ Err (fault c o) → forget (block_with (suc k) at d s fs next (unread bs next)) ≡ Err (fault c o)
  unfolding decls-of forget
  block-stops h e = ap forget (few h ∙ bind-refuse _ stmts-of next (unread bs next) (turned-away outcome e))

  module _ {rest : ℕ} (e : forget outcome ≡ Ok rest) where
    there : Landed bs next rest outcome
    there = landed bs next rest outcome ((tracks-declarations bs (block_with k) (tracks-block bs k) s d fs).lands next) e

    pub decls-onward : next ≤ rest
    decls-onward = there.onward

    pub block-goes-on : length fs + d ≤ 32 → forget (block_with (suc k) at d s fs next (unread bs next)) ≡ forget (statements (block_with k) s rest (unread bs rest))
    unfolding decls-of stmts-of
    block-goes-on h =
        ap forget (few h ∙ bind-read _ stmts-of next (unread bs next) there.reads)
        ∙ forget-give (statements (block_with k) s) rest (unread bs rest) (block at there.value)

-- a block whose own record is refused
module _ (at d s : ℕ) (fs bs : List ℕ) (next : ℕ) {c : Refusal} {o : ℕ} where
  pub block-unopened : (left : ℕ) → opened_of left at next d (length fs) ≡ Err (fault c o) → forget (block_with left at d s fs next (unread bs next)) ≡ Err (fault c o)
  unfolding opened_of
  block-unopened zero e = block-deep at d s fs next (unread bs next) ∙ e
  block-unopened (suc k) e = go (leb (length fs + d) 32) refl
    where
      go : (b : Bool) → leb (length fs + d) 32 ≡ b → forget (block_with (suc k) at d s fs next (unread bs next)) ≡ Err (fault c o)
      go true h =
          let w = opened-fits at next d (length fs) (suc k) (λ z. omega arith) (leb-true (length fs + d) 32 h) in
          let z : ◌≡◌ {A = ℕ} 0 1 = cc in absurd (omega arith)
      go false h =
          let w = leb-false (length fs + d) 32 h in
          block-many k at d s fs bs next w ∙ opened-many at next d (length fs) (suc k) (λ z. omega arith) w ∙ e

-- a BK read, then its block
module _ (body : BlockReader) (fs : List ℕ) (bs : List ℕ) (at : ℕ) where
  inner : Record Bool → Reader Block
  inner b = body b.at (get_or b.fields 0 0) (get_or b.fields 1 0) fs

  abbrev pub headed : Reader Block
  headed = take-record block_marks >>= λ b. body b.at (get_or b.fields 0 0) (get_or b.fields 1 0) fs

  pub head-stops : (c : Refusal) (o : ℕ) → record_at ABlock bs at ≡ Reading.Refused c o → headed at (unread bs at) ≡ refuse c o
  unfolding record_at
  head-stops c o e = bind-refuse (take-record block_marks) _ at (unread bs at) (stopped (only_mark BK) block_marks bs at e)

  module _ {m : Mark} {next f0 f1 f2 f3 : ℕ} (e : record_at ABlock bs at ≡ Taken m next f0 f1 f2 f3) where
    st : Step (only_mark BK) block_marks bs at m next f0 f1 f2 f3
    unfolding record_at
    st = stepped (only_mark BK) block_marks bs at e

    renamed : (at₀ d s : ℕ) → at₀ ≡ at → d ≡ f0 → s ≡ f1 → body at₀ d s fs next (unread bs next) ≡ body at f0 f1 fs next (unread bs next)
    renamed at₀ d s p q r = cc

    pub head-goes-on : headed at (unread bs at) ≡ body at f0 f1 fs next (unread bs next)
    head-goes-on =
        bind-read (take-record block_marks) _ at (unread bs at) st.reads
        ∙ renamed st.taking.at (get_or st.taking.fields 0 0) (get_or st.taking.fields 1 0) st.at-is st.f0-is st.f1-is

-- a procedure's formals, then its BK and block
module _ (body : BlockReader) (p : ℕ) (bs : List ℕ) (start : ℕ) where
  pub body-stops : {c : Refusal} {o : ℕ} → formals p [] start (unread bs start) ≡ refuse c o → body_of body p start (unread bs start) ≡ refuse c o
  unfolding body_of
  body-stops e = bind-refuse (formals p []) _ start (unread bs start) e

  pub body-goes-on : {ps : List Formal} {at : ℕ} → formals p [] start (unread bs start) ≡ read ps at (unread bs at) → body_of body p start (unread bs start) ≡ headed body (formal_names ps) bs at at (unread bs at)
  unfolding body_of
  body-goes-on e = bind-read (formals p []) _ start (unread bs start) e
