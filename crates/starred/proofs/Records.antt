-- The checks of a file's contents and records by computation: a test at each entry, record or pair of records tells that none is wrong.
use mathlib.Core.Path.{◌≡◌}
use mathlib.Core.Logic.{◌⊎◌, inl, inr, ⊎_elim}
use mathlib.Core.List.{List}
use mathlib.Core.Bool.{Bool, true, not, ◌&&◌, cond}
use Prim.Native.Nat.{ℕ, suc, ◌+◌, ◌*◌, ◌-◌, ◌%◌, ◌^◌, ◌≤◌, ◌<◌}
use native.Mathlib.Omega.{arith}
use lib.ListN.{length, take}
use lib.Dec.{eqb, leb, ltb}
use Rattle.verdict.specs.Checks.{Decides, Nowhere}
use Rattle.machine.specs.Limits.{most_inputs, most_states}
use Rattle.machine.specs.Moves.{SameWord}
use Rattle.verdict.proofs.Tests.{decides_at_most, decides_equal, decides_below, decides_not, decides_either, ◌also◌}
use Rattle.verdict.specs.Below.{every}
use Rattle.verdict.proofs.Below.{decides_every}
use Rattle.basics.specs.Words.{most_outputs}
use Rattle.specification.specs.Limits.{most_evolutions, most_bytes, most_text}
use Rattle.specification.specs.File.{mark, rests_of, count_of, entry_at, kinds, starts_kind, kind_of, offset_of, length_of, start_of, Has, WellFormed}
use Rattle.verdict.specs.Below.{sum_to}
use Rattle.specification.specs.Records.{sizes_of, records, word, source, target, text_length, Sized, Evolves, Beyond, Own, Twice}
use Rattle.specification.specs.Records.Beyond.{output_beyond, source_beyond, target_beyond}

module _ (file : List ℕ) where
  -- refusal 1, but for the mark
  abbrev pub formed : Bool
  formed =
      leb (length file) most_bytes
      && leb kinds (count_of file)
      && leb (entry_at (count_of file)) (length file)
      && every kinds (λ k. eqb (kind_of file k) (k + 1))
      && every (count_of file - 1) (λ k. ltb (kind_of file k) (kind_of file (suc k)))
      && every (count_of file) (λ k. leb (kind_of file k) starts_kind && eqb (offset_of file k) (start_of file k))
      && eqb (start_of file (count_of file)) (length file)
      && eqb (length_of file 0) 4
      && eqb (length_of file 1 % 3) 0
      && eqb (length_of file 2 % 3) 0

  pub well_formed : take 4 file ≡ mark (rests_of file) → formed ≡ true → WellFormed file
  well_formed marked e =
      let x = (decides_at_most _ _ also decides_at_most _ _ also decides_at_most _ _
      also decides_every kinds _ (λ k. kind_of file k ≡ k + 1) (λ k. decides_equal _ _)
      also decides_every (count_of file - 1) _ (λ k. kind_of file k < kind_of file (suc k)) (λ k. decides_below _ _)
      also decides_every (count_of file) _ (λ k. (kind_of file k ≤ starts_kind) × (offset_of file k ≡ start_of file k)) (λ k. decides_at_most _ _ also decides_equal _ _)
      also decides_equal _ _ also decides_equal _ _ also decides_equal _ _ also decides_equal _ _).holds e in
      let y = x.0.0.0.0 in
      record {
        headed = record { few = y.0.0.0.0.0; marked = marked; count = y.0.0.0.0.1; enough = y.0.0.0.1 };
        entries = record { always = y.0.0.1; rising = λ k h. y.0.1 k (omega arith); known = λ k h. (y.1 k h).0; offset = λ k h. (y.1 k h).1; ends = x.0.0.0.1 };
        measured = record { sizes = x.0.0.1; states = x.0.1; evolutions = x.1 };
      }

  -- the file has no body of a kind
  abbrev pub lacks : ℕ → Bool
  lacks kind = every (count_of file) (λ k. not (eqb (kind_of file k) kind))

  pub none_of : (kind : ℕ) → lacks kind ≡ true → Has file kind → ⊥
  none_of kind e (k, o) = (decides_every (count_of file) _ (λ k. kind_of file k ≡ kind → ⊥) (λ k. decides_not (decides_equal _ _))).holds e k o.there o.is

  -- refusal 2
  abbrev pub ranged : Bool
  ranged =
      leb 1 (sizes_of file).inputs
      && leb (sizes_of file).inputs most_inputs
      && leb 1 (sizes_of file).outputs
      && leb (sizes_of file).outputs most_outputs
      && leb 1 (sizes_of file).states
      && leb (sizes_of file).states most_states
      && ltb (sizes_of file).initial (sizes_of file).states
      && leb (sizes_of file).evolutions most_evolutions
      && eqb (length_of file 1) (3 * (sizes_of file).states)
      && every (sizes_of file).worded (λ s. eqb (text_length file (sizes_of file) s) 0)
      && eqb (sum_to (text_length file (sizes_of file)) (records (sizes_of file))) (length_of file 3)
      && every (count_of file) (λ k. cond (ltb k kinds) true (leb (length_of file k) most_text))

  pub sized : ranged ≡ true → Sized file
  sized e =
      let x = (decides_at_most _ _ also decides_at_most _ _ also decides_at_most _ _ also decides_at_most _ _ also decides_at_most _ _ also decides_at_most _ _
      also decides_below _ _ also decides_at_most _ _ also decides_equal _ _
      also decides_every (sizes_of file).worded _ (λ s. text_length file (sizes_of file) s ≡ 0) (λ s. decides_equal _ _) also decides_equal _ _
      also decides_every (count_of file) _ (λ k. (k < kinds) ⊎ (length_of file k ≤ most_text)) (λ k. decides_either (decides_below _ _) (decides_at_most _ _))).holds e in
      let r = x.0.0.0.0 in
      record {
        ranges = record {
          some_input = r.0.0.0.0.0.0.0;
          few_inputs = r.0.0.0.0.0.0.1;
          some_output = r.0.0.0.0.0.1;
          few_outputs = r.0.0.0.0.1;
          some_state = r.0.0.0.1;
          few_states = r.0.0.1;
          begins = r.0.1;
          few_evolutions = r.1;
        };
        states = x.0.0.0.1;
        empty = x.0.0.1;
        texts = x.0.1;
        bodies = λ k h l. ⊎_elim (λ m. absurd (omega arith)) (λ m. m) (x.1 k l);
      }

  -- each state, and each evolution, passes a test
  abbrev pub of_states : (ℕ → Bool) → Bool
  of_states f = every (sizes_of file).states f

  abbrev pub of_evolutions : (ℕ → Bool) → Bool
  of_evolutions f = every (records (sizes_of file)) (λ r. cond (ltb r (sizes_of file).states) true (f r))

  decides_states : (P : ℕ → Type 0) {f : ℕ → Bool} → ((s : ℕ) → Decides (P s) (f s)) → Decides ((s : ℕ) → s < (sizes_of file).states → P s) (of_states f)
  decides_states P told = decides_every (sizes_of file).states _ P told

  decides_evolutions : (P : ℕ → Type 0) {f : ℕ → Bool} → ((r : ℕ) → Decides (P r) (f r)) → Decides ((r : ℕ) → r < records (sizes_of file) → (r < (sizes_of file).states) ⊎ P r) (of_evolutions f)
  decides_evolutions P told = decides_every (records (sizes_of file)) _ (λ r. (r < (sizes_of file).states) ⊎ P r) (λ r. decides_either (decides_below _ _) (told r))

  evolution : {r : ℕ} {P : Type 0} → Evolves (sizes_of file) r → (r < (sizes_of file).states) ⊎ P → P
  evolution x (inl h) = absurd (omega (arith, x.after))
  evolution x (inr p) = p

  -- refusals 4, 6 and 7: words, sources and targets; no evolution to its own source, and no two alike
  abbrev pub alike : ℕ → ℕ → Bool
  alike q r = eqb (source file (sizes_of file) q) (source file (sizes_of file) r) && eqb (target file (sizes_of file) q) (target file (sizes_of file) r)

  abbrev pub recorded : Bool
  recorded =
      of_states (λ r. ltb (word file (sizes_of file) r) (2 ^ (sizes_of file).outputs))
      && of_evolutions (λ r. ltb (source file (sizes_of file) r) (sizes_of file).states)
      && of_evolutions (λ r. ltb (target file (sizes_of file) r) (sizes_of file).states)
      && of_evolutions (λ r. not (eqb (target file (sizes_of file) r) (source file (sizes_of file) r)))
      && of_evolutions (λ r. every r (λ q. cond (ltb q (sizes_of file).states) true (not (alike q r))))

  abbrev Alike : ℕ → ℕ → Type 0
  Alike q r = (source file (sizes_of file) q ≡ source file (sizes_of file) r) × (target file (sizes_of file) q ≡ target file (sizes_of file) r)

  decides_earlier : (r : ℕ) → Decides ((q : ℕ) → q < r → (q < (sizes_of file).states) ⊎ (Alike q r → ⊥)) (every r (λ q. cond (ltb q (sizes_of file).states) true (not (alike q r))))
  decides_earlier r = decides_every r _ (λ q. (q < (sizes_of file).states) ⊎ (Alike q r → ⊥)) (λ q. decides_either (decides_below _ _) (decides_not (decides_equal _ _ also decides_equal _ _)))

  never : ((r : ℕ) → r < (sizes_of file).states → word file (sizes_of file) r < 2 ^ (sizes_of file).outputs)
      → ((r : ℕ) → r < records (sizes_of file) → (r < (sizes_of file).states) ⊎ (source file (sizes_of file) r < (sizes_of file).states))
      → ((r : ℕ) → r < records (sizes_of file) → (r < (sizes_of file).states) ⊎ (target file (sizes_of file) r < (sizes_of file).states))
      → (r : ℕ) → Beyond file (sizes_of file) r → ⊥
  never words sources targets r (output_beyond h l) = omega (arith, words r h)
  never words sources targets r (source_beyond x l) = omega (arith, evolution x (sources r x.below))
  never words sources targets r (target_beyond x l) = omega (arith, evolution x (targets r x.below))

  pub record_checks_lem : recorded ≡ true → Nowhere (Beyond file (sizes_of file)) × Nowhere (Own file (sizes_of file)) × Nowhere (Twice file (sizes_of file))
  record_checks_lem e =
      let x =
      (decides_states (λ r. word file (sizes_of file) r < 2 ^ (sizes_of file).outputs) (λ r. decides_below _ _)
      also decides_evolutions (λ r. source file (sizes_of file) r < (sizes_of file).states) (λ r. decides_below _ _)
      also decides_evolutions (λ r. target file (sizes_of file) r < (sizes_of file).states) (λ r. decides_below _ _)
      also decides_evolutions (λ r. target file (sizes_of file) r ≡ source file (sizes_of file) r → ⊥) (λ r. decides_not (decides_equal _ _))
      also decides_evolutions (λ r. (q : ℕ) → q < r → (q < (sizes_of file).states) ⊎ (Alike q r → ⊥)) (λ r. decides_earlier r)).holds e in (
        record { nowhere = never x.0.0.0.0 x.0.0.0.1 x.0.0.1 },
        record { nowhere = λ r o. evolution o.evolves (x.0.1 r o.evolves.below) o.loops },
        record { nowhere = λ r t. evolution t.evolved (evolution t.evolves (x.1 r t.evolves.below) t.earlier t.before) (t.from, t.to) },
      )

  -- refusal 11
  pub none_same : of_states (λ s. every s (λ q. not (eqb (word file (sizes_of file) q) (word file (sizes_of file) s)))) ≡ true → Nowhere (SameWord (word file (sizes_of file)) (sizes_of file).states)
  none_same e =
      let x = (decides_states (λ s. (q : ℕ) → q < s → word file (sizes_of file) q ≡ word file (sizes_of file) s → ⊥) (λ s. decides_every s _ _ (λ q. decides_not (decides_equal _ _)))).holds e in
      record { nowhere = λ s f. x s f.state f.earlier f.before f.same }
