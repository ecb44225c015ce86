-- What holds of every state that a run comes to, and the laws of the live activations that it is made of.
use Rattle.std.specs.Prelude.{ℕ, suc, ◌+◌, ◌≤◌, List, [], ◌∷◌, ◌++◌, map, ◌≡◌, refl, length}
use Rattle.std.proofs.Common.{append_assoc, append-nil, sym, ap, ◌∙◌}
use Rattle.std.proofs.Math.Option.{none}
use Rattle.language.specs.Text.{Block, block, stmts, block_decls, block_stmts}
use Rattle.language.specs.Machine.{Activation, State, resume, with_live}
use Rattle.laws.specs.Rising.{Rising, rising-resumed}
use Rattle.instances.proofs.Closed.{Kinds, decl_kinds, LabelsIn, AllUsed, InDecls, InStmts}

-- the kinds of the names that a text declares, and of those that activations declare, outermost first: the order in which the
-- machine looks for an instance
unfoldable pub kinds_in : Block → Kinds
kinds_in b = decl_kinds (block_decls b)

unfoldable pub live_kinds : List Activation → Kinds
live_kinds [] = []
live_kinds (a ∷ rest) = kinds_in a.text ++ live_kinds rest

-- an activation's copy in which the names of K are visible, its own among them
unfoldable pub CopyIn : Block → Kinds → Type 0
CopyIn (block at ds ss) K = LabelsIn (length (stmts ss)) ds × InDecls ds K × InStmts ss K

abbrev pub AllSeen : Kinds → List ℕ → Type 0
AllSeen K xs = AllUsed K (map (λ (x : ℕ). (x, none)) xs)

-- An activation above others that declare the names of K: its copy is closed; its arguments are among the names of K; its next
-- statement is one of its own or the end.
pub record Placed (K : Kinds) (a : Activation) : Type 0 where
  pub closed : CopyIn a.text (K ++ kinds_in a.text)
  pub given : AllSeen K a.arguments
  pub begun : 1 ≤ a.next
  pub within : a.next ≤ suc (length (block_stmts a.text))

-- activations above those that declare the names of K
unfoldable pub Stacked : Kinds → List Activation → Type 0
Stacked K [] = Unit {0}
Stacked K (a ∷ rest) = Placed K a × Stacked (K ++ kinds_in a.text) rest

-- The invariant: the new names of each activation are consecutive and lie above those of the ones before it, and each is placed.
pub record Invariant (s : State) : Type 0 where
  pub rising : Rising 65536 s.live s.fresh
  pub stacked : Stacked [] s.live

-- the activations before a place are stacked
pub stacked-before : (K : Kinds) (before rest : List Activation) → Stacked K (before ++ rest) → Stacked K before
unfolding Stacked
stacked-before K [] rest h = tt
stacked-before K (a ∷ before) rest h = (h.0, stacked-before (K ++ kinds_in a.text) before rest h.1)

-- the activation at a place is placed above those before it
pub stacked-at : (K : Kinds) (before : List Activation) (a : Activation) (rest : List Activation) → Stacked K (before ++ (a ∷ rest)) → Placed (K ++ live_kinds before) a
unfolding Stacked live_kinds
stacked-at K [] a rest h = rw append-nil h.0
stacked-at K (b ∷ before) a rest h = rw append_assoc at (stacked-at (K ++ kinds_in b.text) before a rest h.1)

stacked-resumed : (K : Kinds) (before : List Activation) (a : Activation) (rest : List Activation) (n : ℕ) → 1 ≤ n → n ≤ suc (length (block_stmts a.text)) →
    Stacked K (before ++ (a ∷ rest)) → Stacked K (before ++ (resume a n ∷ []))
unfolding Stacked resume
stacked-resumed K [] a rest n b w h = let p = h.0 in (record { closed = p.closed; given = p.given; begun = b; within = w }, tt)
stacked-resumed K (c ∷ before) a rest n b w h = (h.0, stacked-resumed (K ++ kinds_in c.text) before a rest n b w h.1)

-- dropping what is above an activation and going on in it at another statement
pub resumed : (s : State) (before : List Activation) (a : Activation) (rest : List Activation) (n : ℕ) → s.live ≡ before ++ (a ∷ rest) →
    1 ≤ n → n ≤ suc (length (block_stmts a.text)) → Invariant s → Invariant (with_live s (before ++ (resume a n ∷ [])))
unfolding with_live
resumed s before a rest n e b w inv =
    record {
      rising = rising-resumed 65536 before a rest s.fresh n (rw e at inv.rising);
      stacked = stacked-resumed [] before a rest n b w (rw e at inv.stacked);
    }

-- one more on top
pub stacked-more : (K : Kinds) (as' : List Activation) (a : Activation) → Stacked K as' → Placed (K ++ live_kinds as') a → Stacked K (as' ++ (a ∷ []))
unfolding Stacked live_kinds
stacked-more K [] a h p = (rw append-nil at p, tt)
stacked-more K (c ∷ rest) a h p = (h.0, stacked-more (K ++ kinds_in c.text) rest a h.1 (rw append_assoc p))

pub live_kinds-append : (as' bs : List Activation) → live_kinds (as' ++ bs) ≡ live_kinds as' ++ live_kinds bs
unfolding live_kinds
live_kinds-append [] bs = refl
live_kinds-append (a ∷ rest) bs =
    ap {B = Kinds} (λ r. kinds_in a.text ++ r) (live_kinds-append rest bs) ∙ sym (append_assoc (kinds_in a.text) (live_kinds rest) (live_kinds bs))
