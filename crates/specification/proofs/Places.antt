-- Where the bytes of the file with rest conditions lie: its parts stand end to end, so each begins where the one before ends, which is
-- where it began, and behind the rest conditions all is moved by them. So its words, evolutions and later bodies are as they were.
use mathlib.Core.Path.{◌≡◌, refl, sym, ap, ap₂, ◌∙◌}
use mathlib.Core.Bool.{false}
use mathlib.Core.List.{List, [], ◌∷◌, ◌++◌}
use Prim.Native.Nat.{ℕ, zero, suc, ◌+◌, ◌-◌, ◌≤◌, ◌<◌}
use native.Mathlib.Omega.{arith}
use borrow.Author.Tests.{ne_eqb}
use lib.ListN.{length, get_or, take, drop, length-take, length-drop}
use lib.Seq.{drop-drop, take_at}
use Rattle.verdict.specs.Below.{sum_to, join_to}
use Rattle.verdict.proofs.Below.{sum_none, sum_on, join_length, join_even}
use Rattle.specification.specs.File.{rests_of, count_of, kinds, entry_at, kind_of, offset_of, length_of, start_of, body_of, WellFormed}
use Rattle.specification.specs.Records.{sizes_of, records, record_at, byte_of, word, text_length, Sized}
use Rattle.specification.specs.Rules.{texts_at, text_at, text_of}
use Rattle.specification.specs.Rests.{rest_text, rest_texts, grown, two_bytes, entry_bytes, state_bytes, state_records, with_rests}
use Rattle.specification.specs.declared.records.Sizes.{Sizes}
use Rattle.specification.proofs.Laws.{start_first, start_more, start_le}
use Rattle.specification.proofs.Entries.{body_within}
use Rattle.specification.proofs.Forms.{evolutions_worded}
use Rattle.specification.proofs.Rewritten.{Rewritten}
use Rattle.specification.proofs.Pieces.{From, after, byte_at, two_at_lem, kept, piece_at}

module _ (f : List ℕ) where
  abbrev z : Sizes
  z = sizes_of f

  abbrev g : List ℕ
  g = with_rests f

  abbrev rest : ℕ → List ℕ
  rest s = rest_text f z s

  -- the file is so much longer
  abbrev added : ℕ
  added = length (rest_texts f)

  -- the parts, each with what follows it
  abbrev texts : List ℕ
  texts = rest_texts f ++ drop (start_of f 3) f

  abbrev evolutions : List ℕ
  evolutions = body_of f 2 ++ texts

  abbrev states : List ℕ
  states = state_records f ++ evolutions

  abbrev sizes : List ℕ
  sizes = body_of f 0 ++ states

  -- ---- the contents
  pub count_is : count_of g ≡ count_of f
  unfolding with_rests
  count_is = refl

  from_contents : From g 5 (join_to (entry_bytes f) (count_of f) ++ sizes)
  unfolding with_rests
  from_contents = record { is = refl; long = omega arith }

  entries_long : (k : ℕ) → entry_at k ≡ 5 + length (join_to (entry_bytes f) k)
  entries_long k = omega (arith, join_even (entry_bytes f) 5 k (λ k. refl))

  entry : (k : ℕ) → k < count_of f → (u : List ℕ) × From g (entry_at k) (entry_bytes f k ++ u)
  entry k h = piece_at (entry_bytes f) (count_of f) sizes from_contents k (entry_at k) h (entries_long k)

  pub kind_is : (k : ℕ) → k < count_of f → kind_of g k ≡ kind_of f k
  kind_is k h = byte_at 0 (entry_at k) (entry k h).1 (omega arith)

  pub offset_is : (k : ℕ) → k < count_of f → offset_of g k ≡ offset_of f k + sum_to (grown f) k
  offset_is k h =
      let (u, e) = entry k h in
      let offset = offset_of f k + sum_to (grown f) k in
      let long = two_bytes (length_of f k + grown f k) ++ u in
      two_at_lem offset long (after (entry_at k + 1) (kind_of f k ∷ []) (two_bytes offset ++ long) e refl)

  pub length_of_lem : (k : ℕ) → k < count_of f → length_of g k ≡ length_of f k + grown f k
  length_of_lem k h =
      let (u, e) = entry k h in
      let long = length_of f k + grown f k in
      two_at_lem long u (after (entry_at k + 3) (kind_of f k ∷ two_bytes (offset_of f k + sum_to (grown f) k)) (two_bytes long ++ u) e refl)

  pub start_is : (k : ℕ) → k ≤ count_of f → start_of g k ≡ start_of f k + sum_to (grown f) k
  unfolding start_of sum_to
  start_is zero h = omega (arith, count_is)
  start_is (suc k) h = omega (arith, start_is k (omega arith), length_of_lem k (omega arith))

  -- behind kind 4 no body grows, and each is moved by the rest conditions
  none_grown : (k : ℕ) → kinds ≤ k → grown f k ≡ 0
  none_grown k h = rw (ne_eqb k 3 (λ e. omega arith))

  pub all_grown : (k : ℕ) → kinds ≤ k → sum_to (grown f) k ≡ added
  unfolding sum_to
  all_grown k h = omega (arith, sum_on (grown f) (λ _. 0) added kinds k h (omega arith) (λ k l _. none_grown k l), sum_none (λ _. 0) k (λ _ _. refl))

  pub length_same : (k : ℕ) → kinds ≤ k → k < count_of f → length_of g k ≡ length_of f k
  length_same k l h = omega (arith, length_of_lem k h, none_grown k l)

  module _ (wf : WellFormed f) (sz : Sized f) where
    -- ---- the bodies
    within : (k : ℕ) → k < kinds → start_of f k + length_of f k ≤ length f
    within k h = body_within wf.entries k (omega (arith, wf.headed.count))

    body_long : (k : ℕ) → k < kinds → start_of f (k + 1) ≡ start_of f k + length (body_of f k)
    body_long k h = omega (arith, start_more f k, length-take (length_of f k) (drop (start_of f k) f), length-drop (start_of f k) f, within k h)

    states_long : (s : ℕ) → record_at z s ≡ start_of f 1 + length (join_to (state_bytes f z) s)
    states_long s = omega (arith, join_even (state_bytes f z) 3 s (λ s. refl))

    from_sizes : From g (start_of f 0) sizes
    from_sizes = after (start_of f 0) (join_to (entry_bytes f) (count_of f)) sizes from_contents (start_first f ∙ entries_long (count_of f))

    from_states : From g (start_of f 1) states
    from_states = after (start_of f 1) (body_of f 0) states from_sizes (body_long 0 (omega arith))

    -- the evolutions follow the states, the texts follow both
    evolutions_at : start_of f 2 ≡ record_at z z.states
    evolutions_at = omega (arith, start_more f 1, sz.states)

    texts_at_lem : start_of f 3 ≡ texts_at z
    texts_at_lem = omega (arith, evolutions_at, start_more f 2, wf.measured.evolutions)

    from_evolutions : From g (start_of f 2) evolutions
    from_evolutions = after (start_of f 2) (state_records f) evolutions from_states (evolutions_at ∙ states_long z.states)

    from_texts : From g (start_of f 3) texts
    from_texts = after (start_of f 3) (body_of f 2) texts from_evolutions (body_long 2 (omega arith))

    from_end : From g (start_of f 3 + added) (drop (start_of f 3) f)
    from_end = after (start_of f 3 + added) (rest_texts f) (drop (start_of f 3) f) from_texts refl

    pub length_is : length g ≡ length f + added
    length_is = omega (arith, from_end.long, length-drop (start_of f 3) f, within 3 (omega arith))

    moved : (m n : ℕ) → start_of f 3 ≤ n → m ≡ n + added → drop m g ≡ drop n f
    moved m n h e =
        let i = n - start_of f 3 in
        let a : m ≡ start_of f 3 + added + i = omega arith in
        let b : start_of f 3 + i ≡ n = omega arith in
        ap (λ m. drop m g) a
        ∙ sym (drop-drop i (start_of f 3 + added) g)
        ∙ ap (drop i) from_end.is
        ∙ drop-drop i (start_of f 3) f
        ∙ ap (λ n. drop n f) b

    bodies_same : (k : ℕ) → kinds ≤ k → k < count_of f → body_of g k ≡ body_of f k
    bodies_same k l h =
        ap₂ (λ n xs. take n xs) (length_same k l h)
        (moved (start_of g k) (start_of f k) (start_le f 3 k (omega arith)) (omega (arith, start_is k (omega arith), all_grown k l)))

    pub size_same : (i j : ℕ) → i ≡ j → start_of f 0 ≤ j → j < start_of f 0 + 4 → get_or g i 0 ≡ get_or f j 0
    size_same i j e l h = ap (λ n. get_or g n 0) e ∙ kept f states (length_of f 0) from_sizes (within 0 (omega arith)) j l (omega (arith, wf.measured.sizes))

    -- ---- the records
    evolution_byte : (r k : ℕ) → z.states ≤ r → r < records z → k < 3 → byte_of g z r k ≡ byte_of f z r k
    evolution_byte r k a b h =
        kept f texts (length_of f 2) from_evolutions (within 2 (omega arith)) (record_at z r + k)
        (omega (arith, evolutions_at))
        (omega (arith, texts_at_lem, start_more f 2))

    state : (s : ℕ) → s < z.states → (u : List ℕ) × From g (record_at z s) (state_bytes f z s ++ u)
    state s h = piece_at (state_bytes f z) z.states evolutions from_states s (record_at z s) h (states_long s)

    words_same : (s : ℕ) → s < z.states → word g z s ≡ word f z s
    words_same s h = let (u, e) = state s h in two_at_lem (word f z s) (length (rest s) ∷ u) e

    rest_length : (s : ℕ) → s < z.states → text_length g z s ≡ length (rest s)
    rest_length s h = byte_at 2 (record_at z s + 2) (state s h).1 refl

    -- ---- the texts
    rests_before : (s : ℕ) → s ≤ z.states → sum_to (text_length g z) s ≡ length (join_to rest s)
    rests_before s h = join_length rest (text_length g z) s (λ i l. rest_length i (omega arith))

    rests_same : (s : ℕ) → s < z.states → text_of g z s ≡ rest s
    rests_same s h =
        let (u, e) = piece_at rest z.states (drop (start_of f 3) f) from_texts s (text_at g z s) h (omega (arith, texts_at_lem, rests_before s (omega arith))) in
        ap₂ (λ n xs. take n xs) (rest_length s h) e.is ∙ take_at (rest s) u (length (rest s)) refl

    module _ (without : rests_of f ≡ false) where
      pub texts_before : (r : ℕ) → z.states ≤ r → r ≤ records z → sum_to (text_length g z) r ≡ added + sum_to (text_length f z) r
      texts_before r l h =
          let none = sum_none (text_length f z) z.states (λ s l. sz.empty s (omega (arith, evolutions_worded f without))) in
          sum_on (text_length g z) (text_length f z) added z.states r l (omega (arith, rests_before z.states (omega arith), none))
          (λ k a b. evolution_byte k 2 a (omega arith) (omega arith))

      texts_same : (r : ℕ) → z.states ≤ r → r < records z → text_of g z r ≡ text_of f z r
      texts_same r a b =
          ap₂ (λ n xs. take n xs) (evolution_byte r 2 a b (omega arith))
          (moved (text_at g z r) (text_at f z r) (omega (arith, texts_at_lem)) (omega (arith, texts_before r a (omega arith))))

      pub rewritten : Rewritten f g z
      rewritten =
          record {
            worded = evolutions_worded f without;
            shares = record {
              words = words_same;
              sources = λ r a b. evolution_byte r 0 a b (omega arith);
              targets = λ r a b. evolution_byte r 1 a b (omega arith);
              enough = wf.headed.count;
              always = wf.entries.always;
              count = count_is;
              kinds_same = kind_is;
              bodies = bodies_same;
            };
            texts = texts_same;
            rests = rests_same;
          }
