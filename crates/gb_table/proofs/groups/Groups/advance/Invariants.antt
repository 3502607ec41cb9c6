use Rattle.gb_types.specs.Common.{◌≡◌, suc, ◌-◌, ◌<◌, ◌≤◌, length, get_or, take, drop, vec_len, vec_capacity}
use Rattle.gb_table.specs.Packing.{queues, walk, gave}
use Rattle.gb_table.specs.SlotsValue.{AreNamed}
use Rattle.gb_table.proofs.WalkLemmas.{nowhere}
use Rattle.gb_table.proofs.WriteLemmas.{Wrote}
use Rattle.gb_table.proofs.groups.Groups.advance.Given as goal

abbrev pub invariant-loop-step : goal.invariant-loop-step
invariant-loop-step l =
    let vs = walk l.from (queues l.dest.number l.fn.self.rows) in
    record {
      rooms : l.self.rooms ≡ l.fn.self.rooms;
      cursors : l.self.cursors ≡ l.fn.self.cursors;
      size : length l.self.rows ≡ length l.fn.self.rows;
      named : AreNamed l.version l.self.rows;
      within : l.at ≤ length l.self.rows;
      rows : l.self.rows ≡ gave l.dest.number 0 (take l._step vs) l.fn.self.rows;
      rest : walk l.at (queues l.dest.number l.self.rows) ≡ drop l._step vs;
      wrote : Wrote l.version l.fn.self.rows vs (vec_len l.fn.out) l.fn.out.items l._step (vec_len l.out) l.out.items;
      capacity : vec_capacity l.fn.out ≤ vec_capacity l.out;
      last : 0 < l._step → l.at ≡ suc (get_or vs (l._step - 1) nowhere).place;
    }
