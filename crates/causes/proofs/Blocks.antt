-- 9 to 11 by the blocks around the action: where the check says 9, no block around the action at the offset declares a name
-- that it uses (`nowhere-declared`); where it says 10, the nearest block that has the name has it with another kind (`nearest-of-another-kind`); where it
-- says 11, the nearest has it as a procedure whose formals the arguments differ from in number or kind (`nearest-differs`). The arguments' kinds, and the names
-- to the left that are fine, are said of the names visible there; `kind-by-blocks` and `fine-by-blocks` say what that is in the blocks.
use Rattle.std.specs.Prelude.{ℕ, ◌≤◌, false, List, [], ◌∷◌, ◌++◌, map, ◌≢◌, ◌≡◌, refl}
use Rattle.std.proofs.Common.{arith, sym, ap, ◌∙◌, subst}
use Rattle.std.proofs.Math.Option.{Option, none, some}
use Rattle.std.proofs.Math.ListN.{get_elem?}
use Rattle.language.specs.Numbers.{refusal_number}
use Rattle.language.specs.Basics.{among, lookup}
use Rattle.language.specs.Text.{Kind, Formal, Action, CL, Block, Decl, block_decls}
use Rattle.language.specs.Encoding.{block_fields, fields_of}
use Rattle.language.specs.Scope.{Meaning, Scope, formal_meaning, decl_meaning, kind_in}
use Rattle.language.specs.Check.{refused, check}
use Rattle.language.specs.declared.Refusal.{Refusal}
use Rattle.language.specs.declared.Refusal.TheVariants.{NotVisible, WrongKind, CallMismatch}
use Rattle.laws.specs.Each.{Each}
use Rattle.laws.specs.Kinds.{Differs}
use Rattle.laws.specs.Lookup.{lookup-nil, either, lookup_absent, lookup-left, lookup-right}
use Rattle.laws.specs.Tests.{by-lookup, none≢some, some_inj}
use Rattle.grammar.specs.Rules.{Bytes, FormedBlock}
use Rattle.coordinates.specs.Enclosure.{Enclosing, Enclosure, names_of}
use Rattle.coordinates.proofs.Visible.{meanings_of, scope_of, meanings-named}
use Rattle.causes.specs.Places.{Place}
use Rattle.causes.specs.Faults.{Suits, Uses, Used, Unseen, OtherKind, Mismatch, Broken, past_end, misplaced, out_of_range, too-deep, too_many, twice, Misuse, not_seen, of-another-kind, not-matched, Fault, of_length, of-record, of_end, of-use}
use Rattle.causes.proofs.Exact.{faulted}
use Rattle.causes.specs.FormalSites.{StandsAmong}
use Rattle.causes.proofs.FormalSites.{found_among}
use Rattle.causes.proofs.FormalSettled.{sees-stands}

-- An action of the whole program that the bytes are, at the offset o, and the blocks around it, innermost first.
pub record ActionAt (bs : List ℕ) (o : ℕ) : Type 0 where
  pub program : Block
  pub formed : FormedBlock program 1 [] 0
  pub text : fields_of bs ≡ block_fields program
  pub action : Action
  pub blocks : Enclosure
  pub stands : StandsAmong program blocks o action

-- the nearest block that has the name n has it as a formal, or a declaration, that gives it the meaning m
pub data Nearest (n : ℕ) (m : Meaning) : Enclosure → Type 0 where
  as-formal : {e : Enclosing} {es : Enclosure} (i : ℕ) (f : Formal) → get_elem? e.formals i ≡ some f → formal_meaning f ≡ (n, m) → Nearest n m (e ∷ es)
  as-declared : {e : Enclosing} {es : Enclosure} (i : ℕ) (d : Decl) → get_elem? (block_decls e.text) i ≡ some d → decl_meaning d ≡ (n, m) → Nearest n m (e ∷ es)
  further : {e : Enclosing} {es : Enclosure} → among n (names_of e) ≡ false → Nearest n m es → Nearest n m (e ∷ es)

not_named : (e : Enclosing) (n : ℕ) → lookup n (meanings_of e) ≡ none → among n (names_of e) ≡ false
not_named e n h = ap (among n) (sym (meanings-named e)) ∙ lookup_absent n (meanings_of e) h

nearest : (es : Enclosure) (n : ℕ) (m : Meaning) → lookup n (scope_of es) ≡ some m → Nearest n m es
unfolding scope_of meanings_of
nearest [] n m q = lookup-nil n m q
nearest (e ∷ es) n m q =
    either n (meanings_of e) (scope_of es) m q
    (λ r. either n (map formal_meaning e.formals) (map decl_meaning (block_decls e.text)) m r
    (λ s. let f = found_among formal_meaning e.formals n m s in as-formal f.0 f.1 f.2 f.3)
    (λ no s. let d = found_among decl_meaning (block_decls e.text) n m s in as-declared d.0 d.1 d.2 d.3))
    (λ no r. further (not_named e n no) (nearest es n m r))

nowhere : (es : Enclosure) (n : ℕ) → lookup n (scope_of es) ≡ none → Each (λ (e : Enclosing). among n (names_of e) ≡ false) es
unfolding scope_of
nowhere [] n q = tt
nowhere (e ∷ es) n q =
    by-lookup (lookup n (meanings_of e)) (λ no. (not_named e n no, nowhere es n (sym (lookup-right n (meanings_of e) (scope_of es) no) ∙ q)))
    (λ m h. none≢some (sym q ∙ lookup-left n (meanings_of e) (scope_of es) m h))

-- what the names that are fine, and a call's arguments, are in the blocks
pub kind-by-blocks : (es : Enclosure) (n : ℕ) (k : Kind) → kind_in (scope_of es) n ≡ some k → (m : Meaning) × Nearest n m es × (m.kind ≡ k)
unfolding kind_in
kind-by-blocks es n k q = go (lookup n (scope_of es)) refl q
  where
    go : (v : Option Meaning) → lookup n (scope_of es) ≡ v → elim v as (λ x. Option Kind) [ none ↦ none | some m ↦ some m.kind ] ≡ some k → (m : Meaning) × Nearest n m es × (m.kind ≡ k)
    go none e h = none≢some h
    go (some m) e h = (m, nearest es n m e, some_inj h)

pub fine-by-blocks : (es : Enclosure) (n : ℕ) (k : Kind) → Suits (scope_of es) (n, some k) → (m : Meaning) × Nearest n m es × (m.kind ≡ k)
fine-by-blocks es n k h = (h.0, nearest es n h.0 h.1, h.2)

-- the causes judged in file order have numbers up to 8, those judged in the scope higher ones
broken-number : {c : Refusal} {p : Place} {us : List ℕ} → Broken c p us → refusal_number c ≤ 8
broken-number (past_end h) = omega arith
broken-number (misplaced h) = omega arith
broken-number (out_of_range h) = omega arith
broken-number (too-deep h) = omega arith
broken-number (too_many h) = omega arith
broken-number (twice h) = omega arith

fault-used : {bs : List ℕ} {c : Refusal} {o : ℕ} → Fault bs c o → 9 ≤ refusal_number c → Used (fields_of bs) o (Misuse c)
fault-used (of_length h) n = absurd (omega arith)
fault-used (of-record f h) n = absurd (omega (arith, broken-number h.fault))
fault-used (of_end f h) n = absurd (omega arith)
fault-used (of-use f h) n = h

unseen-only : {a : Action} {sc : Scope} → Misuse NotVisible a sc → Unseen a sc
unseen-only (not_seen h) = h

other-only : {a : Action} {sc : Scope} → Misuse WrongKind a sc → OtherKind a sc
other-only (of-another-kind h) = h

mismatch-only : {a : Action} {sc : Scope} → Misuse CallMismatch a sc → Mismatch a sc
mismatch-only (not-matched h) = h

-- the action at fault, and what it sees
module _ (bs : List ℕ) (bytes : Bytes bs) (o : ℕ) where
  at-fault : (c : Refusal) → check bs ≡ refused c o → 9 ≤ refusal_number c → (w : ActionAt bs o) × Misuse c w.action (scope_of w.blocks)
  at-fault c q n =
      let u = fault-used (faulted bs bytes c o q) n in
      let s = sees-stands u.program o u.action u.scope u.sees in
      (record { program = u.program; formed = u.formed; text = u.text; action = u.action; blocks = s.blocks; stands = s.stands }, subst (Misuse c u.action) (sym s.visible) u.fault)

  pub nowhere-declared : check bs ≡ refused NotVisible o
      → (w : ActionAt bs o) × (n : ℕ) × (want : Option Kind) × Uses (scope_of w.blocks) w.action n want × Each (λ (e : Enclosing). among n (names_of e) ≡ false) w.blocks
  nowhere-declared q =
      let a = at-fault NotVisible q (omega arith) in
      let f = unseen-only a.1 in
      (a.0, f.name, f.want, f.uses, nowhere a.0.blocks f.name f.unseen)

  pub nearest-of-another-kind : check bs ≡ refused WrongKind o
      → (w : ActionAt bs o) × (n : ℕ) × (want : Kind) × (m : Meaning) × Uses (scope_of w.blocks) w.action n (some want) × Nearest n m w.blocks × (m.kind ≢ want)
  nearest-of-another-kind q =
      let a = at-fault WrongKind q (omega arith) in
      let f = other-only a.1 in
      (a.0, f.name, f.want, f.meaning, f.uses, nearest a.0.blocks f.name f.meaning f.seen, f.other)

  pub nearest-differs : check bs ≡ refused CallMismatch o
      → (w : ActionAt bs o) × (p : ℕ) × (xs : List ℕ) × (m : Meaning) × (ks : List Kind) × (w.action ≡ CL p xs) × Nearest p m w.blocks × (m.takes ≡ some ks) × Differs ks (map (kind_in (scope_of w.blocks)) xs)
  nearest-differs q =
      let a = at-fault CallMismatch q (omega arith) in
      let f = mismatch-only a.1 in
      (a.0, f.called, f.arguments, f.meaning, f.takes, f.call, nearest a.0.blocks f.called f.meaning f.seen, f.declared, f.differ)
