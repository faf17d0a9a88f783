use Rattle.std.proofs.Common.{◌≡◌, ◌+◌, ◌++◌, ◌-◌, sym, subst, drop, length}
use Rattle.loft_tree.specs.View.{declaration_of, source_of}
use Rattle.loft_scopes.specs.Counts.{HasRoom}
use Rattle.loft_scopes.specs.declared.counts.DeclarationCounts.{DeclarationCounts}
use Rattle.loft_scopes.specs.Scopes.{none_yet}
use Rattle.loft_numbers.specs.Numbers.{links_in}
use Rattle.loft_scopes.proofs.Numbered.{item_fits, room_left}
use Rattle.loft_numbers.proofs.LinksLeft.{next_links}
use Rattle.loft_numbers.proofs.link.links.Goals as goal

pub put_links-requires : goal.put_links-requires
put_links-requires c = item_fits c.args.items.now c.loop-item.item-index c.item-item.result c.loop-item-test.true c.item-item.is c.requires.fits

pub loop-item-preserved : goal.loop-item-preserved
loop-item-preserved c =
    subst (λ (n : DeclarationCounts). record {
      room : HasRoom n (length c.args.items.now - (c.loop-item.item-index + 1));
      rest : c.put_links.new.all.items ++ links_in n (source_of (drop (c.loop-item.item-index + 1) c.args.items.now)) ≡ links_in none_yet (source_of c.args.items.now);
    }) (sym c.after-sofar.ensures)
    (record {
      room = room_left c.loop-item.sofar (declaration_of c.item-item.result) (length c.args.items.now) c.loop-item.item-index c.loop-item-test.true c.loop-item.invariant.room;
      rest = next_links c.loop-item.sofar c.args.items.now c.loop-item.item-index c.item-item.result c.loop-item.all.items c.put_links.new.all.items _ c.loop-item-test.true c.item-item.is c.in_ok-put_links.ensures c.loop-item.invariant.rest;
    })
