-- The table that a scan of the rules leaves: its bytes are the moves, or the blank at couples without a rule. So where each couple has
-- a rule its moves are the file's, and what the checks of a table find in it are the refusals 9 to 13 of the file.
use mathlib.Core.Path.{◌≡◌, refl, sym, ap, subst, ◌∙◌}
use mathlib.Core.List.{List}
use mathlib.Core.Logic.{◌⊎◌, inl, inr, ⊎_elim}
use Prim.Native.Nat.{ℕ, ◌+◌, ◌*◌, ◌≤◌, ◌<◌}
use native.Mathlib.Omega.{arith}
use lib.ListN.{length, get_or}
use lib.Arith.{digits_lt}
use lib.Pow.{pow_pos}
use Rattle.verdict.specs.Checks.{Decides, Nowhere, Judged, Passed}
use Rattle.verdict.specs.Buffers.{Filled}
use Rattle.verdict.specs.declared.Answer.{Answer}
use Rattle.verdict.proofs.Order.{judged_passes, judged_row}
use Rattle.verdict.proofs.Tests.{decides_is, decides_not, ◌also◌}
use Rattle.machine.specs.Couples.{Couple}
use Rattle.machine.specs.Moves.{table_moves, Stateless, SameWord, Start}
use Rattle.machine.specs.Runs.{startable, machine_of, Starts}
use Rattle.machine.specs.declared.Frame.{Frame}
use Rattle.machine.proofs.Order.{below_or, equal_or}
use Rattle.machine.proofs.Couples.{couple_of, couple_below}
use Rattle.machine.proofs.Same.{Into, transient_into, unreached_into, start_into}
use Rattle.tables.specs.Tables.{Tabled}
use Rattle.specification.specs.Limits.{blank_move}
use Rattle.specification.specs.Records.{settings, couples, records, word, Beyond, target_beyond}
use Rattle.specification.specs.Rules.{leads_to, Fires, TwoRules, NoRule, Moves, MoveAt, MayStart, FrameOf}
use Rattle.specification.specs.Reading.{move_checks}
use Rattle.specification.specs.inner.Private.{Laid, Noted, filled_checks}
use Rattle.specification.specs.declared.records.Sizes.{Sizes}
use Rattle.specification.proofs.Framing.{framed, framed_is}
use Rattle.specification.proofs.Firing.{leads_state, leads_evolution}

module _ (file : List ℕ) (z : Sizes) where
  -- rules lead to states, by check 4
  pub leads_below : Nowhere (Beyond file z) → (r : ℕ) → r < records z → leads_to file z r < z.states
  leads_below n r h = ⊎_elim
      (λ l. omega (arith, leads_state file z r l))
      (λ k.
      let g : z.states ≤ leads_to file z r → ⊥ = λ b. n.nowhere r (target_beyond (record { after = k; below = h }) (omega (arith, leads_evolution file z r k))) in
      omega arith)
      (below_or r z.states)

  -- at most one rule holds, by check 8
  pub same_rule : {m s v p : ℕ} → Nowhere (TwoRules file z m) → Couple z.states m s v p → (q r : ℕ) → Fires file z s v q → Fires file z s v r → q ≡ r
  same_rule n k q r f g =
      let a : q < r → ⊥ = λ l. n.nowhere _ (record { couple = k; two = record { differ = l; one = f; other = g; low = _; high = _ }; s = _; v = _ }) in
      let b : r < q → ⊥ = λ l. n.nowhere _ (record { couple = k; two = record { differ = l; one = g; other = f; low = _; high = _ }; s = _; v = _ }) in
      omega arith

  pub same_move : {m s v p x y : ℕ} → Nowhere (TwoRules file z m) → Couple z.states m s v p → Moves file z s v x → Moves file z s v y → x ≡ y
  same_move n k a b = sym a.leads ∙ ap (leads_to file z) (same_rule n k _ _ a.fires b.fires) ∙ b.leads

-- rules that lead to states, no two of which hold at a couple, and the table of their moves
pub record Ruled (file : List ℕ) (z : Sizes) (table : List ℕ) : Type 0 where
  pub leads : (r : ℕ) → r < records z → leads_to file z r < z.states
  pub single : Nowhere (TwoRules file z (settings z))
  pub moves : (p : ℕ) → p < couples z → MoveAt file z (settings z) p (get_or table p 0)

-- the moves of such a table are those of the file
module _ {file : List ℕ} {z : Sizes} {table : List ℕ} (t : Ruled file z table) where
  below : {s v x : ℕ} → Moves file z s v x → x < z.states
  below y = subst (λ x. x < z.states) y.leads (t.leads _ y.fires.below)

  here : (s v : ℕ) → s < z.states → v < settings z → Moves file z s v (get_or table (s * settings z + v) 0)
  here s v h k = (t.moves _ (digits_lt h k)).move s v (record { state = h; setting = k; number = refl })

  pub table_into : Into z.states (settings z) (table_moves table (settings z)) (Moves file z)
  table_into =
      record {
        to = λ s v x h k e. subst (Moves file z s v) e (here s v h k);
        inside = λ s v x h k e. below (subst (Moves file z s v) e (here s v h k));
      }

  pub into_table : Into z.states (settings z) (Moves file z) (table_moves table (settings z))
  into_table =
      record {
        to = λ s v x h k y. same_move file z t.single (record { state = h; setting = k; number = refl }) (here s v h k) y;
        inside = λ s v x h k y. below y;
      }

  pub states_only : (p : ℕ) → p < couples z → get_or table p 0 < z.states
  states_only p l = below ((t.moves p l).move _ _ (couple_of p (pow_pos z.inputs) l))

  -- and so are its starts, with the sets of its frame
  module _ {f : Frame} (x : FrameOf file z f) (i : z.initial < z.states) where
    decides_may : (v : ℕ) → v < settings z → Decides (MayStart file z v) (startable f v)
    decides_may v h = x.starts.each v h also decides_not (x.never.each v h)

    pub start_there : (v : ℕ) × Start (Moves file z) (MayStart file z) (settings z) z.initial v → (v : ℕ) × Starts (machine_of (framed z f.never f.starts) table) v
    start_there s = (s.0, start_into into_table (decides_is (decides_may s.0 s.1.below)) i s.1)

    start_back : (v : ℕ) × Starts (machine_of (framed z f.never f.starts) table) v → (v : ℕ) × Start (Moves file z) (MayStart file z) (settings z) z.initial v
    start_back s = (s.0, start_into table_into (decides_may s.0 s.1.below).holds i s.1)

-- what the scan leaves where no two rules hold, and the words of the states
pub record Settled (file : List ℕ) (z : Sizes) (table words : List ℕ) : Type 0 where
  pub laid : Laid file z
  pub leads : (r : ℕ) → r < records z → leads_to file z r < z.states
  pub single : Nowhere (TwoRules file z (settings z))
  pub noted : (p : ℕ) → p < couples z → Noted file z (settings z) p (get_or table p 0)
  pub named : (s : ℕ) → s < z.states → get_or words s 0 ≡ word file z s

-- its sizes and its length are fit for the checks of a table
pub tabled : {file : List ℕ} {z : Sizes} {f : Frame} (table : List ℕ) → Laid file z → FrameOf file z f → couples z ≤ length table → Tabled (machine_of f table)
tabled table l x h =
    let g = l.ranges in
    subst (λ (f : Frame). Tabled (machine_of f table)) (sym (framed_is x))
    (record { sized = record { some_input = g.some_input; few_inputs = g.few_inputs; few_states = g.few_states; begins = g.begins }; long = h })

pub settled : {file : List ℕ} {z : Sizes} {a b u w : List ℕ} → Laid file z → Nowhere (Beyond file z) → Nowhere (TwoRules file z (settings z)) → Filled (couples z) (λ p y. Noted file z (settings z) p y) a b
    → Filled z.states (λ s y. y ≡ word file z s) u w → Settled file z b w
settled {file} {z} l n t f g = record { laid = l; leads = leads_below file z n; single = t; noted = λ p h. f.needed p h; named = g.needed }

-- states with other words of the same numbers
pub same_words : {u w : ℕ → ℕ} {states : ℕ} → ((s : ℕ) → s < states → u s ≡ w s) → (s : ℕ) → SameWord u states s → SameWord w states s
same_words e s x =
    let h = x.state in
    record { state = h; earlier = x.earlier; before = x.before; same = sym (e x.earlier (omega (arith, x.before))) ∙ x.same ∙ e s h }

module _ {file : List ℕ} {z : Sizes} {table words : List ℕ} (t : Settled file z table words) where
  -- a byte is the blank, or the move
  blank_or : (p : ℕ) → p < couples z → (get_or table p 0 ≡ blank_move) ⊎ MoveAt file z (settings z) p (get_or table p 0)
  blank_or p h = ⊎_elim inl (λ n. inr ((t.noted p h).some n)) (equal_or (get_or table p 0) blank_move)

  -- refusal 9: it is no state exactly where there is no rule
  stateless_to : (p : ℕ) → Stateless table z.states (settings z) p → NoRule file z (settings z) p
  stateless_to p x =
      let k = x.couple in
      let h = couple_below k in
      ⊎_elim (λ e. record { s = x.s; v = x.v; couple = k; none = (t.noted p h).none e _ _ k })
      (λ y. let y = y.move _ _ k in let g = t.leads _ y.fires.below in let b = x.beyond in absurd (omega (arith, y.leads)))
      (blank_or p h)

  to_stateless : (p : ℕ) → NoRule file z (settings z) p → Stateless table z.states (settings z) p
  to_stateless p x =
      let k = x.couple in
      ⊎_elim (λ e. record { s = x.s; v = x.v; couple = k; beyond = omega (arith, t.laid.ranges.few_states) })
      (λ y. absurd (x.none _ (y.move _ _ k).fires))
      (blank_or p (couple_below k))

  -- where each couple has a rule the bytes are the moves
  pub ruled : Nowhere (NoRule file z (settings z)) → Ruled file z table
  ruled some =
      record {
        leads = t.leads;
        single = t.single;
        moves = λ p h.
            let k = couple_of p (pow_pos z.inputs) h in
            ⊎_elim (λ e. absurd (some.nowhere p (record { couple = k; none = (t.noted p h).none e _ _ k; s = _; v = _ }))) (λ y. y) (blank_or p h);
      }

  -- so the checks of the table and the words are those of the file
  pub carried : {a : Answer} {f : Frame} → FrameOf file z f → Judged (filled_checks (machine_of f table) words) Passed a → Judged (move_checks file z) Passed a
  carried {a} {f} x v =
      let i = t.laid.ranges.begins in
      judged_row stateless_to to_stateless (λ some.
      let r = ruled some in
      judged_row (transient_into (table_into r) (into_table r)) (transient_into (into_table r) (table_into r)) (λ _.
      judged_row (same_words t.named) (same_words (λ s h. sym (t.named s h))) (λ _.
      judged_row (unreached_into (into_table r) i) (unreached_into (table_into r) i) (λ _.
      judged_row (λ p u. (u.0, λ s. u.1 (start_there r x i s))) (λ p u. (u.0, λ s. u.1 (start_back r x i s))) (λ _ v. v)))))
      (subst (λ (f : Frame). Judged (filled_checks (machine_of f table) words) Passed a) (framed_is x) v)

  -- and where they pass, the buffer is filled with the moves
  pub moves_left : {a : List ℕ} {r : Answer} {P : ℕ → ℕ → Type 0} → Judged (move_checks file z) Passed r → Filled (couples z) P a table
      → Filled (couples z) (λ p x. r.number ≡ 0 → MoveAt file z (settings z) p x) a table
  moves_left v f =
      record { same_length = f.same_length; needed = λ p h e. (ruled (judged_passes 13 v refl e).0).moves p h; beyond = f.beyond }
