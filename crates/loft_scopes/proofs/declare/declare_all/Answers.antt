use Rattle.std.proofs.Common.{◌+◌, ◌-◌, ap, sym, subst, List, drop, length}
use Rattle.loft_tree.specs.View.{declaration_of, source_of}
use Rattle.loft_scopes.specs.Counts.{HasRoom}
use Rattle.loft_scopes.specs.Scopes.{Declared, DeclarationCounts, after, declared, declared_by, declared_from}
use Rattle.loft_scopes.proofs.Declaring.{Remains, begins, goes_on, next_item}
use Rattle.loft_scopes.proofs.Numbered.{item_fits, first_room, room_left}
use Rattle.loft_scopes.proofs.declare.declare_all.Goals as goal

pub loop-item-init : goal.loop-item-init
loop-item-init c = record {
  room = first_room c.none-sofar.result c.args.items.now c.none-sofar.ensures c.requires;
  rest = begins c.new-table.result c.args.least.now (declared (source_of c.args.items.now)) (declared_from c.none-sofar.result (source_of c.args.items.now))
      (ap (λ n. declared_from n (source_of c.args.items.now)) c.none-sofar.ensures);
}

pub declare_item-requires : goal.declare_item-requires
declare_item-requires c = item_fits c.args.items.now c.loop-item.item-index c.item-item.result c.loop-item-test.true c.item-item.is c.requires.each

pub loop-item-preserved : goal.loop-item-preserved
loop-item-preserved c =
    subst (λ (n : DeclarationCounts). record {
      room : HasRoom n (length c.args.items.now - (c.loop-item.item-index + 1));
      rest : Remains c.new-table.result c.in_ok-table.table c.args.least.now c.declare_item.new.least (declared (source_of c.args.items.now)) (declared_from n (source_of (drop (c.loop-item.item-index + 1) c.args.items.now)));
    }) (sym c.after-sofar.ensures)
    (record {
      room = room_left c.loop-item.sofar (declaration_of c.item-item.result) (length c.args.items.now) c.loop-item.item-index c.loop-item-test.true c.loop-item.invariant.room;
      rest = goes_on c.new-table.result c.loop-item.table c.in_ok-table.table c.args.least.now c.loop-item.least c.declare_item.new.least (declared (source_of c.args.items.now))
          (declared_by c.loop-item.sofar (declaration_of c.item-item.result))
          (declared_from (after c.loop-item.sofar (declaration_of c.item-item.result)) (source_of (drop (c.loop-item.item-index + 1) c.args.items.now)))
          (subst (λ (ds : List Declared). Remains c.new-table.result c.loop-item.table c.args.least.now c.loop-item.least (declared (source_of c.args.items.now)) ds)
          (next_item c.loop-item.sofar c.args.items.now c.loop-item.item-index c.item-item.result c.loop-item-test.true c.item-item.is) c.loop-item.invariant.rest)
          c.in_ok-table.ensures;
    })
