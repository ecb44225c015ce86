-- Doing a statement: on related states both machines do the same, or stop for the same cause.
use Rattle.std.specs.Prelude.{ℕ, Bool, ◌≡◌, List, ℤ}
use Rattle.std.proofs.Common.{arith, ap, ◌∙◌}
use Rattle.std.proofs.Math.Bool.{true, false}
use Rattle.std.proofs.Math.Path.{refl, sym, subst}
use Rattle.std.proofs.Math.Option.{Option, none, some}
use Rattle.std.proofs.Math.Dec.{ltb}
use Rattle.std.specs.Int.Signed.{mag}
use Rattle.language.specs.Basics.{lookup}
use Rattle.language.specs.Text.{Kind, variable, Decl, VR, LB, PR, decl_name, decl_kind}
use Rattle.language.specs.Table.{Table, Effect, leaves, halts, Asked, gives, refuses, added, removed, queried}
use Rattle.language.specs.Machine.{State, Limits, instance, Done, did, stop, store, value, with_table, store_if_fits, as_done, as_stored, add_pair, remove_pair, query_pair}
use Rattle.instances.specs.Statement.{Stands}
use Rattle.frames.specs.Frame.{Stack, Acted, acted, halted, word_at, put, put_if_fits, as_acted, as_put, add_to, remove_from, ask, table_changed}
use Rattle.frames.specs.Related.{designator_at, value_in, or_zero, word_in, Related}
use Rattle.frames.proofs.Designated.{designated, word_at-designated}
use Rattle.frames.proofs.Store.{related-store}

-- both did, and the states are related; or both stopped, for one cause
unfoldable pub Alike : Done → Acted → Type 0
Alike (did s) (acted t) = Related s t
Alike (did s) (halted c) = ⊥
Alike (stop c) (acted t) = ⊥
Alike (stop c) (halted c') = c ≡ c'

-- a name with a live instance of a kind
abbrev pub Live : State → ℕ → Kind → Type 0
Live s x k = Stands s x (some k)

value-word : (vs : List (ℕ × ℤ)) (d : Decl) → decl_kind d ≡ variable → word_in vs d ≡ value_in vs (decl_name d)
unfolding word_in decl_kind decl_name
value-word vs (VR at n) e = refl
value-word vs (LB at n i) e = absurd (let z : ◌≡◌ {A = ℕ} 0 1 = cc in omega arith)
value-word vs (PR at n fs b) e = absurd (let z : ◌≡◌ {A = ℕ} 0 1 = cc in omega arith)

pub value-is : (s : State) (x : ℕ) → value s x ≡ value_in s.values x
unfolding value value_in or_zero
value-is s x = go (lookup x s.values) refl
  where
    go : (o : Option ℤ) → lookup x s.values ≡ o → value s x ≡ or_zero o
    go none q = rw (q, value)
    go (some z) q = rw (q, value)

module _ (s : State) (t : Stack) (r : Related s t) where
  -- a variable's word in its frame is its value
  pub word-is-value : (x : ℕ) → Live s x variable → word_at t.frames (designator_at s.live x) ≡ value s x
  unfolding instance
  word-is-value x v =
      let d = designated s t r x v.it v.found in
      word_at-designated s t x v.it d ∙ (value-word s.values v.it.decl (sym v.serves) ∙ (ap (value_in s.values) d.name-is ∙ sym (value-is s x)))

  pub store-alike : (x : ℕ) (z : ℤ) → Live s x variable → Alike (did (store s x z)) (acted (put t (designator_at s.live x) z))
  unfolding Alike instance
  store-alike x z v = related-store s t r x z v.it v.found (sym v.serves)

  pub fits-alike : (x : ℕ) (z : ℤ) → Live s x variable → Alike (store_if_fits s x z) (put_if_fits t (designator_at s.live x) z)
  unfolding store_if_fits put_if_fits Alike
  fits-alike x z v = go (ltb (mag z) 2147483648) refl
    where
      go : (b : Bool) → ltb (mag z) 2147483648 ≡ b → Alike (store_if_fits s x z) (put_if_fits t (designator_at s.live x) z)
      go true e = rw (e, store_if_fits, put_if_fits) (store-alike x z v)
      go false e = rw (e, store_if_fits, put_if_fits)

  -- the same change to the same table
  table-alike : (u : Table) → Related (with_table s u) (table_changed t u)
  unfolding with_table table_changed
  table-alike u = record { twins = r.twins; rising = r.rising; table_is = refl; steps-are = r.steps-are }

  -- the same effect on the same table, or the same cause
  effect-alike : (o : Effect) → Alike (as_done s o) (as_acted t o)
  unfolding as_done as_acted Alike
  effect-alike (leaves u) = table-alike u
  effect-alike (halts c) = refl

  answer-alike : (x : ℕ) → Live s x variable → (o : Asked) → Alike (as_stored s x o) (as_put t (designator_at s.live x) o)
  unfolding as_stored as_put Alike
  answer-alike x v (gives z) = store-alike x z v
  answer-alike x v (refuses c) = refl

  -- the frames' table is the machine's: what comes of the one comes of the other
  pub add-alike : (l : Limits) (g m : ℤ) → Alike (add_pair l s g m) (add_to l t g m)
  unfolding add_pair add_to
  add-alike l g m = subst (λ (u : Table). Alike (add_pair l s g m) (as_acted t (added l.limit g m u))) r.table_is (effect-alike (added l.limit g m s.table))

  pub remove-alike : (g m : ℤ) → Alike (remove_pair s g m) (remove_from t g m)
  unfolding remove_pair remove_from
  remove-alike g m = subst (λ (u : Table). Alike (remove_pair s g m) (as_acted t (removed g m u))) r.table_is (effect-alike (removed g m s.table))

  pub query-alike : (x : ℕ) (g m : ℤ) → Live s x variable → Alike (query_pair s x g m) (ask t (designator_at s.live x) g m)
  unfolding query_pair ask
  query-alike x g m v = subst (λ (u : Table). Alike (query_pair s x g m) (as_put t (designator_at s.live x) (queried g m u))) r.table_is (answer-alike x v (queried g m s.table))
