-- The style sheet of the user agent: what of HTML, 15.3 "Non-replaced elements", and of CSS Lists 3, Appendix A,
-- counters, markers and quotation marks need. It has nine rules, each on a line of its own.
use Rattle.std.specs.Prelude.{ℕ, List, ◌++◌, codes}

abbrev pub agent_sheet : List ℕ
agent_sheet =
    codes "[hidden],area,base,datalist,head,link,meta,noembed,noframes,param,rp,script,style,template,title{display:none}\n"
    ++ codes "li{display:list-item}\n"
    ++ codes "ol,ul,menu,dir{counter-reset:list-item}\n"
    ++ codes "ol{list-style-type:decimal}\n"
    ++ codes "ul,menu,dir{list-style-type:disc}\n"
    ++ codes ":is(ol,ul,menu,dir) :is(ul,menu,dir){list-style-type:circle}\n"
    ++ codes ":is(ol,ul,menu,dir) :is(ol,ul,menu,dir) :is(ul,menu,dir){list-style-type:square}\n"
    ++ codes "q::before{content:open-quote}\n"
    ++ codes "q::after{content:close-quote}\n"
