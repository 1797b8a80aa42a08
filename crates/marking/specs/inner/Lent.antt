-- What the methods of the queue say of it: which lists it is lent, the room in them, and what they hold.
use Rattle.std.specs.Prelude.{◌≡◌, ℕ, length}
use Rattle.machine.specs.Runs.{Machine, couples}
use Rattle.marking.specs.declared.queue.Queue.{Queue}
use Rattle.marking.specs.declared.rounds.Heads.{Heads}
use Rattle.marking.specs.inner.Queue.{Room, Pushed}
use Rattle.marking.specs.inner.Engine.{Progress}

-- the same lists are lent
abbrev pub Lent : Queue → Queue → Type 0
Lent q q' = (q'.weights.ghost_name ≡ q.weights.ghost_name) × (q'.parents.ghost_name ≡ q.parents.ghost_name) × (q'.couples.ghost_name ≡ q.couples.ghost_name)

-- there is room for each couple
abbrev pub RoomIn : Queue → Type 0
RoomIn q = Room q.weights.now q.parents.now q.couples.now q.tail

-- and there are weights for those of a machine
abbrev pub RoomFor : Machine → Queue → Type 0
RoomFor m q = RoomIn q × (length q.weights.now ≡ couples m)

-- weight r and parent p were offered to the couples of which By holds
abbrev pub PushedIn : (ℕ → Type 0) → ℕ → ℕ → Queue → Queue → Type 0
PushedIn By r p q q' = Pushed By r p q.weights.now q.parents.now q.couples.now q.tail q'.weights.now q'.parents.now q'.couples.now q'.tail

-- between rounds
abbrev pub ProgressIn : Machine → Queue → Heads → Type 0
ProgressIn m q h = Progress m q.weights.now q.parents.now q.couples.now h.single h.many q.tail
