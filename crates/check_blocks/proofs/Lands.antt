-- Every reader of a script's structure goes forward by whole fields and leaves what stands from its end on: so an offset says all that
-- the code has to hold of what is unread. Assumes nothing.
use Rattle.language.specs.Faults.{fault}
use Rattle.language.specs.declared.Fault.{Fault}
use Rattle.std.specs.Prelude.{Ok, Err}
use mathlib.Core.Path.{◌≡◌, refl, sym, ap, ◌∙◌}
use mathlib.Core.Bool.{Bool, true, false}
use mathlib.Core.List.{List, []}
use Prim.Native.Nat.{ℕ, zero, suc, ◌%◌, ◌≤◌}
use native.Mathlib.Omega.{arith}
use native.Mathlib.Decide.{dec_le}
use lib.ListN.{length}
use Rattle.language.specs.Structure.{Reading as Outcome, read, refuse, Reader, ◌>>=◌, ◌>>◌, give, require, fields, Row, Record, DeclMark, is_vR, is_lB, is_pR, StmtMark, is_bK, is_cL, is_gO, is_iF, is_kN, is_aR, is_aD, is_rM, is_qY, take-record, kind, operation, formals, BlockReader, declared, declarations, action, stated, statements, block_with}
use Rattle.language.specs.declared.Refusal.{Refusal}
use Rattle.laws.specs.Readers.{bind-read, bind-refuse}
use Rattle.check_records.specs.Taking.{unread, forget}
use Rattle.check_records.proofs.Unread.{unread-drop}
use Rattle.check_records.proofs.Taking.{fields-all, fields-none}
use Rattle.check_records.proofs.Steps.{Resumes, resumes}
use Rattle.check_blocks.specs.Progress.{body_of}

abbrev pub Lands : {A : Type 0} → List ℕ → ℕ → Outcome A → Type 0
Lands bs at (read a next ws) = (ws ≡ unread bs next) × (at ≤ next) × (next % 2 ≡ at % 2)
Lands bs at (refuse c o) = Unit {0}

pub record Tracks {A : Type 0} (bs : List ℕ) (m : Reader A) : Type 0 where
  pub lands : (at : ℕ) → Lands bs at (m at (unread bs at))

-- where the tree is forgotten, an outcome is known by where it landed
pub record Landed {A : Type 0} (bs : List ℕ) (at next : ℕ) (x : Outcome A) : Type 0 where
  pub value : A
  pub reads : x ≡ read value next (unread bs next)
  pub onward : at ≤ next
  pub even : next % 2 ≡ at % 2

pub landed : {A : Type 0} (bs : List ℕ) (at next : ℕ) (x : Outcome A) → Lands bs at x → forget x ≡ Ok next → Landed bs at next x
unfolding forget
landed bs at next (read a o ws) l e =
    let h : o ≡ next = cc in
    record { value = a; reads = cc; onward = rw h at l.1; even = rw h at l.2 }
landed bs at next (refuse c o) l e = let z : ◌≡◌ {A = ℕ} 0 1 = cc in absurd (omega arith)

pub turned-away : {A : Type 0} {c : Refusal} {o : ℕ} (x : Outcome A) → forget x ≡ Err (fault c o) → x ≡ refuse c o
unfolding forget
turned-away (read a p ws) e = let z : ◌≡◌ {A = ℕ} 0 1 = cc in absurd (omega arith)
turned-away {c = c} {o = o} (refuse d p) e =
    let f : fault c o ≡ fault d p = cc in
    ap (λ (x : Fault). refuse x.cause x.offset) (sym f)

module _ (bs : List ℕ) where
  further : {A : Type 0} (at next : ℕ) (x : Outcome A) → at ≤ next → next % 2 ≡ at % 2 → Lands bs next x → Lands bs at x
  further at next (read a o ws) p q l = (l.0, omega arith, l.2 ∙ q)
  further at next (refuse c o) p q l = tt

  bind-lands : {A B : Type 0} (m : Reader A) (f : A → Reader B) (at : ℕ) (x : Outcome A) → m at (unread bs at) ≡ x → Lands bs at x → ((a : A) → Tracks bs (f a)) → Lands bs at ((m >>= f) at (unread bs at))
  bind-lands m f at (read a next ws) e l h =
      rw (bind-read m f at (unread bs at) e, l.0) (further at next (f a next (unread bs next)) l.1 l.2 ((h a).lands next))
  bind-lands m f at (refuse c o) e l h = rw (bind-refuse m f at (unread bs at) e) tt

  pub tracks_bind : {A B : Type 0} {m : Reader A} {f : A → Reader B} → Tracks bs m → ((a : A) → Tracks bs (f a)) → Tracks bs (m >>= f)
  tracks_bind {m} {f} t h = record { lands = λ at. bind-lands m f at (m at (unread bs at)) refl (t.lands at) h }

  pub tracks-then : {A B : Type 0} {m : Reader A} {n : Reader B} → Tracks bs m → Tracks bs n → Tracks bs (m >> n)
  unfolding ◌>>◌
  tracks-then t u = tracks_bind t (λ a. u)

  pub tracks-give : {A : Type 0} (a : A) → Tracks bs (give a)
  unfolding give
  tracks-give a = record { lands = λ at. (refl, omega arith, refl) }

  pub tracks-require : (b : Bool) (c : Refusal) (o : ℕ) → Tracks bs (require b c o)
  unfolding require
  tracks-require true c o = record { lands = λ at. (refl, omega arith, refl) }
  tracks-require false c o = record { lands = λ at. tt }

  fields-land : (o k at : ℕ) → Dec (k ≤ length (unread bs at)) → Lands bs at (fields o k at (unread bs at))
  fields-land o k at (yes h) = rw (fields-all o k at (unread bs at) h) (unread-drop bs at k, omega arith, omega arith)
  fields-land o k at (no h) = rw (fields-none o k at (unread bs at) (omega arith)) tt

  pub tracks-fields : (o k : ℕ) → Tracks bs (fields o k)
  tracks-fields o k = record { lands = λ at. fields-land o k at (dec_le k (length (unread bs at))) }

  resumes-lands : {M : Type 0} (at : ℕ) (x : Outcome (Record M)) → Resumes bs at x → Lands bs at x
  resumes-lands at (read r next ws) s = (s.1, omega arith, s.4)
  resumes-lands at (refuse c o) s = tt

  pub tracks-take : {M : Type 0} (rows : List (Row M)) → Tracks bs (take-record rows)
  tracks-take rows = record { lands = λ at. resumes-lands at (take-record rows at (unread bs at)) (resumes rows bs at) }

  tracks-kind : (o n : ℕ) → Tracks bs (kind o n)
  unfolding kind
  tracks-kind o zero = tracks-give _
  tracks-kind o (suc zero) = tracks-give _
  tracks-kind o (suc (suc zero)) = tracks-give _
  tracks-kind o (suc (suc (suc n))) = record { lands = λ at. tt }

  tracks-operation : (o n : ℕ) → Tracks bs (operation o n)
  unfolding operation
  tracks-operation o zero = tracks-give _
  tracks-operation o (suc zero) = tracks-give _
  tracks-operation o (suc (suc zero)) = tracks-give _
  tracks-operation o (suc (suc (suc n))) = record { lands = λ at. tt }

  pub tracks-formals : (p : ℕ) (seen : List ℕ) → Tracks bs (formals p seen)
  unfolding formals
  tracks-formals zero seen = tracks-give _
  tracks-formals (suc p) seen =
      tracks_bind (tracks-take _) λ r.
      tracks_bind (tracks-kind _ _) λ k.
      tracks-then (tracks-require _ _ _) (tracks_bind (tracks-formals p _) λ fs. tracks-give _)

  abbrev pub AllTrack : BlockReader → Type 0
  AllTrack body = (at d s : ℕ) (fs : List ℕ) → Tracks bs (body at d s fs)

  module _ (body : BlockReader) (h : AllTrack body) where
    pub tracks-body : (p : ℕ) → Tracks bs (body_of body p)
    unfolding body_of
    tracks-body p = tracks_bind (tracks-formals p []) λ ps. tracks_bind (tracks-take _) λ b. h _ _ _ _

    pub tracks-declared : (s : ℕ) (seen : List ℕ) (m : DeclMark) (at : ℕ) (fs : List ℕ) → Tracks bs (declared body s seen m at fs)
    unfolding declared
    tracks-declared s seen is_vR at fs = tracks-then (tracks-require _ _ _) (tracks-give _)
    tracks-declared s seen is_lB at fs = tracks-then (tracks-require _ _ _) (tracks-then (tracks-require _ _ _) (tracks-give _))
    tracks-declared s seen is_pR at fs =
        tracks-then (tracks-require _ _ _)
        (tracks-then (tracks-require _ _ _)
        (tracks_bind (tracks-formals _ _) λ ps. tracks_bind (tracks-take _) λ b. tracks_bind (h _ _ _ _) λ t. tracks-give _))

    pub tracks-declarations : (s d : ℕ) (seen : List ℕ) → Tracks bs (declarations body s d seen)
    unfolding declarations
    tracks-declarations s zero seen = tracks-give _
    tracks-declarations s (suc d) seen =
        tracks_bind (tracks-take _) λ r.
        tracks_bind (tracks-declared s seen _ _ _) λ x. tracks_bind (tracks-declarations s d _) λ xs. tracks-give _

    pub tracks-stated : (m : StmtMark) (at : ℕ) (fs : List ℕ) → Tracks bs (stated body m at fs)
    unfolding stated action
    tracks-stated is_bK at fs = tracks_bind (h _ _ _ _) λ b. tracks-give _
    tracks-stated is_cL at fs = tracks-then (tracks-require _ _ _) (tracks_bind (tracks-fields _ _) λ xs. tracks-give _)
    tracks-stated is_gO at fs = tracks-give _
    tracks-stated is_iF at fs = tracks-give _
    tracks-stated is_kN at fs = tracks-give _
    tracks-stated is_aR at fs = tracks_bind (tracks-operation _ _) λ o. tracks-give _
    tracks-stated is_aD at fs = tracks-give _
    tracks-stated is_rM at fs = tracks-give _
    tracks-stated is_qY at fs = tracks-give _

    pub tracks-statements : (s : ℕ) → Tracks bs (statements body s)
    unfolding statements
    tracks-statements zero = tracks-give _
    tracks-statements (suc s) =
        tracks_bind (tracks-take _) λ r.
        tracks_bind (tracks-stated _ _ _) λ x. tracks_bind (tracks-statements s) λ xs. tracks-give _

  pub tracks-block : (k : ℕ) → AllTrack (block_with k)
  unfolding block_with
  tracks-block zero at d s fs = record { lands = λ o. tt }
  tracks-block (suc k) at d s fs =
      tracks-then (tracks-require _ _ _)
      (tracks_bind (tracks-declarations (block_with k) (tracks-block k) s d fs) λ ds.
      tracks_bind (tracks-statements (block_with k) (tracks-block k) s) λ ss. tracks-give _)
