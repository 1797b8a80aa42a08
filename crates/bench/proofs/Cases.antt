-- What an update comes to, by the tests of the log and the words: the four cases of `update_of`.
use Prim.Native.Nat.{ℕ, ◌+◌, ◌≤◌, ◌<◌}
use native.Mathlib.Nat.{add-zero}
use mathlib.Core.Path.{◌≡◌}
use mathlib.Core.Bool.{true, false}
use mathlib.Core.List.{List}
use lib.ListN.{set}
use Rattle.std.specs.Prelude.{Ok, Err}
use borrow.Author.Tests.{eq-eqb, ne_eqb, lt-ltb, le-ltb}
use Rattle.verdict.specs.declared.Refusal.TheVariants.{UnsoundLog}
use Rattle.bench.specs.declared.Reading.{Reading}
use Rattle.bench.specs.declared.Log.{Log}
use Rattle.bench.specs.declared.Noted.TheVariants.{Equal, Stored, Full}
use Rattle.bench.specs.Log.{most_entries, refuses, noted, outcome, update_of}

module _ (l : Log) (r : Reading) where
  pub when_refused : refuses l ≡ true → outcome (Err UnsoundLog) l ≡ update_of l r
  unfolding update_of
  when_refused t = simp t

module _ (l : Log) (r : Reading) {counts : List ℕ} (e : counts ≡ (noted l r).outputs) where
  pub when_equal : refuses l ≡ false → r.expected ≡ r.seen
      → outcome (Ok Equal) (record { readings = l.readings + 1; differing = l.differing; kept = l.kept; entries = l.entries; outputs = counts }) ≡ update_of l r
  unfolding update_of
  when_equal t s = rw e (simp (t, eq-eqb r.expected r.seen s, add-zero))

  pub when_full : refuses l ≡ false → (r.expected ≡ r.seen → ⊥) → most_entries ≤ l.kept
      → outcome (Ok Full) (record { readings = l.readings + 1; differing = l.differing + 1; kept = l.kept; entries = l.entries; outputs = counts }) ≡ update_of l r
  unfolding update_of
  when_full t d h = rw e (simp (t, ne_eqb r.expected r.seen d, le-ltb l.kept most_entries h, add-zero))

  pub when_stored : refuses l ≡ false → (r.expected ≡ r.seen → ⊥) → l.kept < most_entries
      → outcome (Ok Stored) (record { readings = l.readings + 1; differing = l.differing + 1; kept = l.kept + 1; entries = set l.entries l.kept r; outputs = counts }) ≡ update_of l r
  unfolding update_of
  when_stored t d h = rw e (simp (t, ne_eqb r.expected r.seen d, lt-ltb l.kept most_entries h))
