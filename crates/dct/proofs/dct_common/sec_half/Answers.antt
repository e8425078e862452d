use Rattle.dct.proofs.Table.{table_at, table_rule, table_none}
use Rattle.dct.proofs.dct_common.sec_half.Goals as goal

pub returns : goal.returns
returns c =
    let n = c.args.n in
    let r = c.sec_half_table.result.now in
    let e = c.sec_half_table.ensures in
    record {
      table = table_at n r e.four e.eight e.sixteen e.thirty_two e.sixty_four e.one_hundred_twenty_eight e.two_hundred_fifty_six e.none;
      rule = table_rule n r e.four e.eight e.sixteen e.thirty_two e.sixty_four e.one_hundred_twenty_eight e.two_hundred_fifty_six e.none;
      none = table_none n r e.four e.eight e.sixteen e.thirty_two e.sixty_four e.one_hundred_twenty_eight e.two_hundred_fifty_six e.none;
    }
