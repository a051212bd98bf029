-- What is promised of peeling holds.
-- Assumes nothing.
use lib.IntN.{pos}
use lib.ListN.{get_or}
use Rattle.lists.proofs.Times.{times_distinct}
use Rattle.elimination.specs.Graph.{Graph}
use Rattle.elimination.specs.Held.{held}
use Rattle.lent.specs.Misencoded.{graph_in}
use Rattle.lent.proofs.Encoded.{formed_inside}
use Rattle.lent.proofs.SoundCode.{sound}
use Rattle.peeling.specs.Peeling.{freed, pick_of, picks_of}
use Rattle.peeling.specs.Promise.{Promised}
use Rattle.peeling.specs.WithPeeledInfo.{code_in, parts_in}
use Rattle.peeling.proofs.BestSymbol.{best_most}
use Rattle.peeling.proofs.PeeledCode.{peeled_once, peeled_not_refused, peeled_same_words}
use Rattle.peeling.proofs.PeeledInfos.{information_picked}
use Rattle.peeling.proofs.Turns.{all_known, picks_distinct, picks_inside}

pub promise : Promised
unfolding pick_of held code_in parts_in
promise last c p prefer r =
    let g : Graph = graph_in c p in
    let inside = formed_inside c p (sound c p r).formed in
    record {
      positions = picks_inside last g prefer inside;
      distinct = times_distinct (picks_of last g prefer) (picks_distinct last g prefer inside);
      known = all_known last g prefer inside;
      best = λ known. best_most last c.n known (λ v. (freed g known v, get_or prefer v (pos 0)));
      each_once = peeled_once last c p prefer (sound c p r);
      not_refused = peeled_not_refused last c p prefer r;
      same_words = peeled_same_words last c p prefer r;
      infos = information_picked last c p prefer r;
    }
