use Rattle.std.proofs.Common.{◌≡◌, ℕ, ◌+◌, ◌*◌, ◌%◌, ◌<◌, ◌≤◌, get_or, length, vec_len}
use Rattle.trials.proofs.lists.filled.Given as goal

-- a row for each round so far, each as it is to be beyond the width
abbrev pub invariant-rows : goal.invariant-rows
invariant-rows g l = record {
  len : vec_len l.list ≡ l.counter * l.shape.stride;
  padding : (k : ℕ) → k < length l.list.items → l.shape.width ≤ k % l.shape.stride → (d : g.row.T.Denot) → get_or l.list.items k d ≡ l.beyond;
}

abbrev pub invariant-loop-x : goal.invariant-loop-x
invariant-loop-x g l = record {
  len : vec_len l.list ≡ l.counter * l.shape.stride + l.x;
  padding : (k : ℕ) → k < length l.list.items → l.shape.width ≤ k % l.shape.stride → (d : g.row.T.Denot) → get_or l.list.items k d ≡ l.beyond;
}
