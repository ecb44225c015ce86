-- What each statement does to the frames, where its names are found. `act l s a` does the action a, whose names are designators;
-- `designates` and `act_stmt` say how a statement of the text becomes one. Read each law as: where these tests and lookups come out
-- so, the action comes out so.
use Rattle.std.specs.Prelude.{ℕ, pred, ◌≡◌, true, false, ◌&&◌, cond, leb, ltb, ℤ, pos, length, take}
use Rattle.std.proofs.Math.Path.{refl, ap}
use Rattle.std.proofs.Common.{◌∙◌}
use mathlib.Core.List.{List, [], ◌∷◌, ◌++◌, map}
use Rattle.std.proofs.Math.Option.{Option, none, some}
use Rattle.std.specs.Int.Signed.{mag}
use Rattle.language.specs.Basics.{eq_z}
use Rattle.language.specs.Text.{Operation, Formal, Action, CL, GO, IF, KN, AR, AD, RM, QY, Block, Decl, BK, DO, label_index, decl_formals, decl_body, formal_kinds}
use Rattle.language.specs.Scope.{agree}
use Rattle.language.specs.Table.{holds, size, at_least_one, full, add, remove, added, removed, queried}
use Rattle.language.specs.Machine.{Limits, compute}
use Rattle.language.specs.declared.Stop.TheVariants.{ResultTooLarge, NoActivationLeft, NumberBelowOne, GroupFull, TableFull, ArgumentsDiffer}
use Rattle.frames.specs.Frame.{Frame, Stack, acted, halted, with_frames, table_changed, continue, numbered, designates, frame_number, decl_of, kind_of, word_at, put_word, map_action, new_frame, push_frame, call_by, go_to, put, put_if_fits, as_acted, as_put, add_to, remove_from, ask, act, act_stmt}

-- of values, whatever they were found at
module _ (l : Limits) (s : Stack) where
  fits : (t : ℕ) (z : ℤ) → ltb (mag z) 2147483648 ≡ true → put_if_fits s t z ≡ acted (with_frames s (put_word s.frames t z))
  unfolding put_if_fits put
  fits t z e = rw (put_if_fits, e)

  fits_not : (t : ℕ) (z : ℤ) → ltb (mag z) 2147483648 ≡ false → put_if_fits s t z ≡ halted ResultTooLarge
  unfolding put_if_fits
  fits_not t z e = rw (put_if_fits, e)

  module _ (g m : ℤ) where
    below_one : at_least_one g && at_least_one m ≡ false → add_to l s g m ≡ halted NumberBelowOne
    unfolding add_to added as_acted
    below_one n = rw (added, n)

    held : at_least_one g && at_least_one m ≡ true → holds g m s.table ≡ true → add_to l s g m ≡ acted s
    unfolding add_to added as_acted table_changed
    held n h = rw (added, n, h)

    group-full : at_least_one g && at_least_one m ≡ true → holds g m s.table ≡ false → leb l.limit (size g s.table) ≡ true → add_to l s g m ≡ halted GroupFull
    unfolding add_to added as_acted
    group-full n h z = rw (added, n, h, z)

    table-full : at_least_one g && at_least_one m ≡ true → holds g m s.table ≡ false → leb l.limit (size g s.table) ≡ false → full s.table ≡ true → add_to l s g m ≡ halted TableFull
    unfolding add_to added as_acted
    table-full n h z f = rw (added, n, h, z, f)

    appended : at_least_one g && at_least_one m ≡ true → holds g m s.table ≡ false → leb l.limit (size g s.table) ≡ false → full s.table ≡ false → add_to l s g m ≡ acted (table_changed s (add g m s.table))
    unfolding add_to added as_acted
    appended n h z f = rw (added, n, h, z, f)

    taken-out-not : at_least_one g && at_least_one m ≡ false → remove_from s g m ≡ halted NumberBelowOne
    unfolding remove_from removed as_acted
    taken-out-not n = rw (removed, n)

    taken_out : at_least_one g && at_least_one m ≡ true → remove_from s g m ≡ acted (table_changed s (remove g m s.table))
    unfolding remove_from removed as_acted
    taken_out n = rw (removed, n)

    asked-not : (t : ℕ) → at_least_one g && at_least_one m ≡ false → ask s t g m ≡ halted NumberBelowOne
    unfolding ask queried as_put
    asked-not t n = rw (queried, n)

    asked : (t : ℕ) → at_least_one g && at_least_one m ≡ true → ask s t g m ≡ acted (with_frames s (put_word s.frames t (cond (holds g m s.table) (pos 1) (pos 0))))
    unfolding ask queried as_put put
    asked t n = rw (queried, n)

-- Entering: the new frame is innermost, or cause 22
module _ (l : Limits) (s : Stack) where
  pub push-room : (fs : List Formal) (xs : List ℕ) (b : Block) (link : ℕ) → ltb (length s.frames) l.activations ≡ true
      → push_frame l s fs xs b link ≡ acted (with_frames s (s.frames ++ (new_frame fs xs b link ∷ [])))
  unfolding push_frame
  push-room fs xs b link t = rw (t, push_frame)

  pub push-full : (fs : List Formal) (xs : List ℕ) (b : Block) (link : ℕ) → ltb (length s.frames) l.activations ≡ false → push_frame l s fs xs b link ≡ halted NoActivationLeft
  unfolding push_frame
  push-full fs xs b link t = rw (t, push_frame)

  -- BK
  pub enters : (b : Block) → ltb (length s.frames) l.activations ≡ true → act_stmt l s (BK b) ≡ acted (with_frames s (s.frames ++ (new_frame [] [] b (length s.frames) ∷ [])))
  unfolding act_stmt
  enters b t = push-room [] [] b (length s.frames) t

  pub enters-full : (b : Block) → ltb (length s.frames) l.activations ≡ false → act_stmt l s (BK b) ≡ halted NoActivationLeft
  unfolding act_stmt
  enters-full b t = push-full [] [] b (length s.frames) t

  -- every other statement, its names found in the innermost frame
  pub does : (at : ℕ) (a : Action) → act_stmt l s (DO at a) ≡ act l s (map_action (designates s.frames) a)
  unfolding act_stmt
  does at a = refl

  -- CL: arguments first (26), room next (22)
  pub calls-nothing : (p : ℕ) (xs : List ℕ) → decl_of s.frames p ≡ none → act l s (CL p xs) ≡ acted s
  unfolding act call_by
  calls-nothing p xs e = rw (e, call_by)

  pub calls-differing : (p : ℕ) (xs : List ℕ) (d : Decl) → decl_of s.frames p ≡ some d → agree (formal_kinds (decl_formals d)) (map (kind_of s.frames) xs) ≡ false
      → act l s (CL p xs) ≡ halted ArgumentsDiffer
  unfolding act call_by
  calls-differing p xs d e a = rw (e, call_by, a)

  calls-agreeing : (p : ℕ) (xs : List ℕ) (d : Decl) → decl_of s.frames p ≡ some d → agree (formal_kinds (decl_formals d)) (map (kind_of s.frames) xs) ≡ true
      → act l s (CL p xs) ≡ push_frame l s (decl_formals d) xs (decl_body d) (frame_number p)
  unfolding act call_by
  calls-agreeing p xs d e a = rw (e, call_by, a)

  pub calls-full : (p : ℕ) (xs : List ℕ) (d : Decl) → decl_of s.frames p ≡ some d → agree (formal_kinds (decl_formals d)) (map (kind_of s.frames) xs) ≡ true
      → ltb (length s.frames) l.activations ≡ false → act l s (CL p xs) ≡ halted NoActivationLeft
  calls-full p xs d e a t = calls-agreeing p xs d e a ∙ push-full (decl_formals d) xs (decl_body d) (frame_number p) t

  pub calls : (p : ℕ) (xs : List ℕ) (d : Decl) → decl_of s.frames p ≡ some d → agree (formal_kinds (decl_formals d)) (map (kind_of s.frames) xs) ≡ true
      → ltb (length s.frames) l.activations ≡ true
      → act l s (CL p xs) ≡ acted (with_frames s (s.frames ++ (new_frame (decl_formals d) xs (decl_body d) (frame_number p) ∷ [])))
  calls p xs d e a t = calls-agreeing p xs d e a ∙ push-room (decl_formals d) xs (decl_body d) (frame_number p) t

  -- GO, and IF where the value is not 0
  pub goes : (x : ℕ) (f : Frame) (d : Decl) → numbered s.frames (frame_number x) ≡ some f → decl_of s.frames x ≡ some d
      → act l s (GO x) ≡ acted (with_frames s (take (pred (frame_number x)) s.frames ++ (continue f (label_index d) ∷ [])))
  unfolding act go_to
  goes x f d e g = rw (e, go_to, g)

  stays : (x : ℕ) (o : Option Frame) → numbered s.frames (frame_number x) ≡ o → decl_of s.frames x ≡ none → go_to s x ≡ s
  unfolding go_to
  stays x none e g = rw (e, go_to)
  stays x (some f) e g = rw (e, go_to, g)

  pub goes-nowhere : (x : ℕ) → decl_of s.frames x ≡ none → act l s (GO x) ≡ acted s
  unfolding act
  goes-nowhere x g = ap acted (stays x (numbered s.frames (frame_number x)) refl g)

  pub passes : (v x : ℕ) (z : ℤ) → word_at s.frames v ≡ z → eq_z z (pos 0) ≡ true → act l s (IF v x) ≡ acted s
  unfolding act
  passes v x z e t = rw (act, e, t)

  pub jumps : (v x : ℕ) (z : ℤ) → word_at s.frames v ≡ z → eq_z z (pos 0) ≡ false → act l s (IF v x) ≡ act l s (GO x)
  unfolding act
  jumps v x z e t = rw (act, e, t)

  -- KN, and AR where the result is within signed 32 bits (else 21)
  pub stores : (t : ℕ) (z : ℤ) → act l s (KN t z) ≡ acted (with_frames s (put_word s.frames t z))
  unfolding act put
  stores t z = refl

  module _ (t : ℕ) (o : Operation) (a b : ℕ) (u v : ℤ) (eu : word_at s.frames a ≡ u) (ev : word_at s.frames b ≡ v) where
    pub computes : ltb (mag (compute o u v)) 2147483648 ≡ true → act l s (AR t o a b) ≡ acted (with_frames s (put_word s.frames t (compute o u v)))
    unfolding act
    computes e = rw (eu, ev) (fits l s t (compute o u v) e)

    pub computes-past : ltb (mag (compute o u v)) 2147483648 ≡ false → act l s (AR t o a b) ≡ halted ResultTooLarge
    unfolding act
    computes-past e = rw (eu, ev) (fits_not l s t (compute o u v) e)

  -- AD, RM and QY, of the values g and m at the designators x and y
  module _ (x y : ℕ) (g m : ℤ) (eg : word_at s.frames x ≡ g) (em : word_at s.frames y ≡ m) where
    -- AD: 23; nothing where the pair is there; 24; 25; the pair at the end
    pub adds-below-one : at_least_one g && at_least_one m ≡ false → act l s (AD x y) ≡ halted NumberBelowOne
    unfolding act
    adds-below-one n = rw (eg, em) (below_one l s g m n)

    pub adds-held : at_least_one g && at_least_one m ≡ true → holds g m s.table ≡ true → act l s (AD x y) ≡ acted s
    unfolding act
    adds-held n h = rw (eg, em) (held l s g m n h)

    pub adds-group-full : at_least_one g && at_least_one m ≡ true → holds g m s.table ≡ false → leb l.limit (size g s.table) ≡ true
        → act l s (AD x y) ≡ halted GroupFull
    unfolding act
    adds-group-full n h z = rw (eg, em) (group-full l s g m n h z)

    pub adds-table-full : at_least_one g && at_least_one m ≡ true → holds g m s.table ≡ false → leb l.limit (size g s.table) ≡ false → full s.table ≡ true
        → act l s (AD x y) ≡ halted TableFull
    unfolding act
    adds-table-full n h z f = rw (eg, em) (table-full l s g m n h z f)

    pub adds : at_least_one g && at_least_one m ≡ true → holds g m s.table ≡ false → leb l.limit (size g s.table) ≡ false → full s.table ≡ false
        → act l s (AD x y) ≡ acted (table_changed s (add g m s.table))
    unfolding act
    adds n h z f = rw (eg, em) (appended l s g m n h z f)

    pub removes-below-one : at_least_one g && at_least_one m ≡ false → act l s (RM x y) ≡ halted NumberBelowOne
    unfolding act
    removes-below-one n = rw (eg, em) (taken-out-not l s g m n)

    pub removes : at_least_one g && at_least_one m ≡ true → act l s (RM x y) ≡ acted (table_changed s (remove g m s.table))
    unfolding act
    removes n = rw (eg, em) (taken_out l s g m n)

    pub asks-below-one : (t : ℕ) → at_least_one g && at_least_one m ≡ false → act l s (QY t x y) ≡ halted NumberBelowOne
    unfolding act
    asks-below-one t n = rw (eg, em) (asked-not l s g m t n)

    pub asks : (t : ℕ) → at_least_one g && at_least_one m ≡ true
        → act l s (QY t x y) ≡ acted (with_frames s (put_word s.frames t (cond (holds g m s.table) (pos 1) (pos 0))))
    unfolding act
    asks t n = rw (eg, em) (asked l s g m t n)
