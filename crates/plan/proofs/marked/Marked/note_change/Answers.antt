-- What a change visits is a couple; the two are noted in the order of the definition.
use Prim.Native.Nat.{◌+◌, ◌*◌, ◌<◌}
use native.Mathlib.Omega.{arith}
use Rattle.plan.proofs.marked.Marked.note_change.Goals as goal

pub bounds-self-c : goal.bounds-self-c
bounds-self-c c =
    let room = c.args.self.now.room in
    omega (arith, room.row c.args.p c.args.v c.requires.0 c.requires.1, room.table_long)

pub bounds-visited-c : goal.bounds-visited-c
bounds-visited-c c =
    let room = c.args.self.now.room in
    omega (arith, room.row c.args.p c.args.v c.requires.0 c.requires.1, room.few)

pub bounds-visited-d : goal.bounds-visited-d
bounds-visited-d c =
    let m = c.args.self.now in
    let here = m.room.row c.args.p c.args.v c.requires.0 c.requires.1 in
    let there : c.from.result * m.size + c.args.v < m.couples = rw c.from.ensures (m.room.moved _ c.args.v here c.requires.1) in
    omega (arith, here, there, m.room.few)
