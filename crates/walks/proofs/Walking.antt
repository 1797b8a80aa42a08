-- The words of a walk by hand, passed on from the kit: each walk takes from here what it uses.
pub use mathlib.Core.Path.{◌∙◌, ◌≡◌, ap, refl, subst, sym}
pub use Prim.Native.Nat.{◌*◌, ◌+◌, ◌-◌, ◌<◌, ◌^◌, ◌≤◌, zero-le, ℕ}
pub use mathlib.Core.Bool.{Bool, false, true}
pub use mathlib.Core.List.{List, [], ◌++◌, ◌∷◌}
pub use lib.Dec.{lit<, ltb, ltb→lt, nltb→le}
pub use lib.ListN.{get_or-eq_default as List·getD-eq-default, drop as drop-list, get_or, length}
pub use seplogic.Ra.Ura.{Ura}
pub use base.Fraction.{full_share}
pub use mir.Syntax.{Ty, imm, mut, named, ty_bool, ty_int, ty_ptr, ty_ref, ty_unit, w64, w8}
pub use mir.Val.{Val, vbool, vint, vptr, vunit}
pub use base.Logic.{SProp, emp, ent, ex_e, fst∗, id⊢, sep, snd∗, via}
pub use base.Fml.{Fml, GName, Lft, Share, fat, fauth, fbor, fdies, flft, fobor, fobs, fres, froom, fshr_bor, ftrue}
pub use prog.Memory.{Memory}
pub use prog.Routine.{Routine}
pub use prog.Wp.{Calls, Env, Heap, Loops, Out, Tables, Wp, WpFn, after_block, after_seq, at_return}
unfoldable pub use prog.Wp.{after_turn}
pub use ghost.Atoms.{Atoms}
pub use Rattle.std.specs.Borrow.{sem}
pub use contract.Monad.{Fun, fact}
pub use contract.Running.{tables}
unfoldable pub use contract.Running.{tables_of}
pub use types.Kit.{ !, Item, Sq, ◌$◌, ◌∵◌, ◌⊛◌, any_q, at_ret, await, by, done, drop, feq_i, feq_l, fjoin, frame, fsplit, group, join, keep, later, move, pick, qed, raw, rewrite, runs, some, split, suffices, use0, use1, use2, ‵, ⋆}
pub use types.Run.{Below, addr, again, alloc0, alloc1, and_then, assigns, assigns_last, bin, blocks, branches, enter, exec, first, fld, forget, free0, free1, from, hop, init, land, leaves_loop, lit, load, look, look_raw, loops, no_more, of_opd, params1, pass0, pass1, returns, stays, stop, store, store_raw, unit_lit}
pub use types.Part.{agg, look_in, sub, whole}
pub use sound.WpLaws.{FmC, fm_of}
pub use denote.RattleType.{RattleType, owns}
pub use denote.Shadow.{pure_i}
pub use denote.Laws.{Are, Is, Ises, Makess, owns_make, shows}
pub use denote.Memory.{pointee, shares}
pub use denote.Plain.{bool_Lawful, bool_Makes, bool_Tells, bool_vals, Nothing-Lawful, uint_Makes, uint_Tells, uint_vals}
pub use denote.Builtin.{bool, u16, u8, unit, usize}
pub use denote.Ref.{Bor, MutBor}
pub use denote.Slice.{MutSlice, Room, ShrSlice, shr_slice_at, mut_slice_at, coded_holeys, finally, heres, mut_slice_Tells, shr_slice_copy, shr_slice_Tells, shr_slice_vals, mut_slice_vals, slice_ty, slice_val}
pub use denote.Lend.{Held}
pub use denote.Index.{closes_slice, elem_back, elem_out, elem_put, looks_slice, opens_slice, place_is, row, shuts_slice}
pub use denote.Signature.{plain as one-slot}
pub use denote.Steps.{heard, nothing, only, owned, peeks}
pub use denote.Triple.Entry.{on_entry}
pub use denote.Triple.Spec.{triple_of}
pub use denote.Triple.Statement.{Contract, Triple}
pub use denote.Triple.Call.{calls_at}
pub use denote.Triple.Clauses.{Lasts, ensured, lasts}
pub use denote.Triple.Table.{cited}
pub use denote.Triple.Walked.{Stays, ends_at, gave_slice, Goes-gave_slice, Goes-none, Goes-none_slice, Goes-slice, needs, says, stay_none, stay_none_slice, stay_slice, walk_of}
pub use denote.Exit.{yes}
pub use types.Share.{arr_parts}
